use Rattle.std.proofs.Common.{◌≡◌}
use Rattle.ww_tests_below.specs.Trying.{IsBetween, draws_in}
use Rattle.ww_tests_below.proofs.rounds.tries.Given as goal

abbrev pub invariant-loop-at : goal.invariant-loop-at
invariant-loop-at l = IsBetween l.board l.seat × (draws_in l.seat ≡ l.at)
