use Rattle.ww_tests_below.proofs.Holding.{looks_at_zero}
use Rattle.ww_tests_below.proofs.rings.a_lock_is_handed_over.Goals as goal

pub wait-requires-clause-may : goal.wait-requires-clause-may
wait-requires-clause-may g c = looks_at_zero c.in_ok-board.board c.in_ok-board.younger c.in_ok-board.ensures.younger
