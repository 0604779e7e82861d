use Rattle.std.proofs.Common.{◌≡◌}
use Rattle.std.specs.Slots.{slots_filled, slots_len}
use Rattle.ww_invariant.specs.Homes.{AreTakenBelow}
use Rattle.ww_invariant.proofs.homes.discard.Given as goal

abbrev pub invariant-loop-i : goal.invariant-loop-i
invariant-loop-i l = AreTakenBelow l.i l.count (slots_filled l.closed.slots) × (slots_len l.closed.slots ≡ l.count)
