use Rattle.ww_lock.specs.Holding.{IsAtHome}
use Rattle.ww_thread_tests.proofs.storms.all_rounds.Given as goal

abbrev pub invariant-loop : goal.invariant-loop
invariant-loop g l = IsAtHome l.pass l.world
