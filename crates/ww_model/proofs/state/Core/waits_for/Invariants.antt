use Rattle.std.proofs.Common.{ℕ, ◌<◌}
use Rattle.ww_model.specs.Waits.{WaitsAt}
use Rattle.ww_model.specs.Snapshot.{state_of}
use Rattle.ww_model.proofs.state.Core.waits_for.Given as goal

abbrev pub invariant-loop-lock : goal.invariant-loop-lock
invariant-loop-lock l = (n b : ℕ) → n < l.lock → ¬ WaitsAt (state_of l.self) l.seat b n
