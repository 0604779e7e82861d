use Rattle.std.proofs.Common.{rules}
use Rattle.ww_tests_below.proofs.Holding.{looks_at_zero, looks_at_one}
use Rattle.ww_tests_below.proofs.called_off.called_off_then_dies.Goals as goal

pub wait-requires-clause-may : goal.wait-requires-clause-may
wait-requires-clause-may g c = looks_at_one c.compare_cancelled.new.board c.call_off.new.by (search rules)

pub stop-requires-clause-may : goal.stop-requires-clause-may
stop-requires-clause-may g c = looks_at_zero c.compare_cancelled-2.new.board c.in_ok-board.younger (search rules)

pub back_off-requires-clause-may : goal.back_off-requires-clause-may
back_off-requires-clause-may g c = looks_at_zero c.compare.new.board c.stop.new.seat (search rules)
