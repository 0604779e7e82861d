use Rattle.std.proofs.Common.{ℕ, ◌<◌, List}
use Rattle.ww_model.specs.Waits.{IsOneOf, IsRing}
use Rattle.ww_model.specs.Snapshot.{state_of}
use Rattle.ww_model.proofs.waits.cycle_in.Given as goal

abbrev pub invariant-loop-seat : goal.invariant-loop-seat
invariant-loop-seat l = (k : ℕ) → k < l.seat → (ring : List ℕ) → ¬ (IsRing (state_of l.core) ring × IsOneOf k ring)
