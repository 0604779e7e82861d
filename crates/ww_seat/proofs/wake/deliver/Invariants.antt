use Rattle.std.proofs.Common.{ℕ, ◌≡◌, ◌≤◌, ◌<◌, length}
use Rattle.std.specs.Option.{option_map}
use Rattle.ww_seat.specs.Marks.{is_marked}
use Rattle.ww_seat.specs.Bells.{rung_at, one_more, ArePlacedAlike}
use Rattle.ww_seat.proofs.wake.deliver.Given as goal

abbrev pub invariant-loop-u : goal.invariant-loop-u
invariant-loop-u l = record {
  placed : ArePlacedAlike l.fn.bells l.bells;
  below : (j : ℕ) → j < l.u → j < length l.bells
      → rung_at l.bells j ≡ option_map (one_more (is_marked l.marks j)) (rung_at l.fn.bells j);
  above : (j : ℕ) → l.u ≤ j → rung_at l.bells j ≡ rung_at l.fn.bells j;
}
