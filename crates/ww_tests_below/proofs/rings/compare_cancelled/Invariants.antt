use Rattle.std.proofs.Common.{◌≡◌}
use Rattle.ww_tests_below.proofs.rings.compare_cancelled.Given as goal

abbrev pub invariant-loop-word : goal.invariant-loop-word
invariant-loop-word g l = l.board ≡ l.initial.board
