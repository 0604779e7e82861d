use Rattle.ww_tests_below.proofs.Holding.{may_end}
use Rattle.ww_tests_below.proofs.rows.end.Goals as goal

pub end-requires-clause-may : goal.end-requires-clause-may
end-requires-clause-may g = may_end g.args.board.now g.args.seat.now g.requires
