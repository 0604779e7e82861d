use Rattle.ww_lock.specs.Holding.{IsAtHome}
use Rattle.ww_tests.proofs.growths.take_turns.Given as goal

abbrev pub invariant-loop : goal.invariant-loop
invariant-loop g l = IsAtHome l.zero l.world × IsAtHome l.one l.world
