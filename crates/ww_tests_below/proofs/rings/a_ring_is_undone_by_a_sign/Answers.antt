use Rattle.std.proofs.Common.{rules}
use Rattle.ww_tests_below.proofs.Holding.{looks_at_zero, looks_at_one}
use Rattle.ww_tests_below.proofs.rings.a_ring_is_undone_by_a_sign.Goals as goal

pub wait-requires-clause-may : goal.wait-requires-clause-may
wait-requires-clause-may g c = looks_at_zero c.in_ok-board.board c.in_ok-board.younger c.in_ok-board.ensures.younger

pub wait-requires-2-clause-may : goal.wait-requires-2-clause-may
wait-requires-2-clause-may g c = looks_at_one c.compare.new.board c.in_ok-board.older (search rules)
