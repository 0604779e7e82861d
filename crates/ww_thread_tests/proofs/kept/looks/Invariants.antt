use Rattle.ww_lock.specs.Holding.{IsAtHome}
use Rattle.ww_thread_tests.proofs.kept.looks.Given as goal

abbrev pub invariant-loop-round : goal.invariant-loop-round
invariant-loop-round g l = IsAtHome l.pass l.world
