use Rattle.ww_lock.specs.Holding.{AreAtHome}
use Rattle.ww_tests.proofs.passes.closes_with_all.Given as goal

abbrev pub invariant-loop-some : goal.invariant-loop-some
invariant-loop-some g l = AreAtHome l.passes.items l.world
