use Rattle.std.proofs.Common.{◌≡◌, ◌<◌, ℕ}
use Rattle.std.specs.List.{slice_index_or}
use Rattle.ww_steps.proofs.going_on.take_mark.Given as goal

abbrev pub invariant-loop-i : goal.invariant-loop-i
invariant-loop-i l = (l.marks ≡ l.fn.marks) × ((j : ℕ) → j < l.i → slice_index_or l.fn.marks j 0 ≡ 0)
