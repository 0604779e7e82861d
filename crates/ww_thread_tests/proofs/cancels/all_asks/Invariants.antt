use Rattle.ww_lock.specs.Holding.{IsAtHome}
use Rattle.ww_thread_tests.proofs.cancels.all_asks.Given as goal

abbrev pub invariant-loop : goal.invariant-loop
invariant-loop g l = IsAtHome l.pass l.world
