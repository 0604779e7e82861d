use Rattle.ww_lock.specs.Holding.{IsAtHome}
use Rattle.ww_thread_tests.proofs.reordered.are_busy.Given as goal

abbrev pub invariant-loop : goal.invariant-loop
invariant-loop g l = IsAtHome l.pass l.world
