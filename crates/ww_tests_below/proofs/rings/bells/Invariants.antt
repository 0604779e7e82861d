use Rattle.std.proofs.Common.{◌≡◌, length}
use Rattle.ww_tests_below.proofs.rings.bells.Given as goal

abbrev pub invariant-loop-seat : goal.invariant-loop-seat
invariant-loop-seat l = length l.bells.items ≡ l.seat
