use Rattle.ww_tests_below.proofs.Holding.{looks_at_zero, looks_at_one}
use Rattle.ww_tests_below.proofs.wakes.who_joins_wakes_the_owner.Goals as goal

pub wait-requires-clause-may : goal.wait-requires-clause-may
wait-requires-clause-may g c = looks_at_zero c.in_ok-board.board c.in_ok-board.younger c.in_ok-board.ensures.younger

pub look-requires-clause-may : goal.look-requires-clause-may
look-requires-clause-may g c = looks_at_one c.in_ok-board.board c.in_ok-board.older c.in_ok-board.ensures.older
