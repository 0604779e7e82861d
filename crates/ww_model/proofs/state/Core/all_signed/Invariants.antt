use Rattle.std.proofs.Common.{ℕ, ◌≢◌, take}
use Rattle.ww_queue.specs.Queue.{Has}
use Rattle.ww_model.specs.Snapshot.{state_of}
use Rattle.ww_model.proofs.state.Core.all_signed.Given as goal

abbrev pub invariant-loop-pair : goal.invariant-loop-pair
invariant-loop-pair l = (v k : ℕ) → Has (take l.pair-index l.owed) (v, k) → (state_of l.self).sign v ≢ 0
