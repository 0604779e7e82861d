use Rattle.ww_lock.specs.Holding.{IsAtHome}
use Rattle.ww_thread_tests.proofs.storms.take_in_turn.Given as goal

abbrev pub invariant-loop-n : goal.invariant-loop-n
invariant-loop-n g l = IsAtHome l.acquiring l.world
