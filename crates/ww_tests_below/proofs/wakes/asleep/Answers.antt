use Rattle.std.proofs.Common.{rules}
use Rattle.ww_tests_below.proofs.Holding.{looks_at_zero}
use Rattle.ww_tests_below.proofs.wakes.asleep.Goals as goal

pub wait-requires-clause-may : goal.wait-requires-clause-may
wait-requires-clause-may g c = looks_at_zero c.hold-owner.new.board c.hold-sleeper.result (search rules)
