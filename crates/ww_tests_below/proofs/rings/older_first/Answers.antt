use Rattle.std.proofs.Common.{rules}
use Rattle.ww_tests_below.proofs.Holding.{looks_at_zero, looks_at_one}
use Rattle.ww_tests_below.proofs.rings.older_first.Goals as goal

pub wait-requires-clause-may : goal.wait-requires-clause-may
wait-requires-clause-may g c = looks_at_one c.in_ok-board.board c.in_ok-board.older c.in_ok-board.ensures.older

pub back_off-requires-clause-may : goal.back_off-requires-clause-may
back_off-requires-clause-may g c = looks_at_zero c.compare.new.board c.in_ok-board.younger (search rules)
