use Rattle.ww_tests_below.proofs.Trying.{took, others_stay}
use Rattle.ww_tests_below.proofs.rows.take.Goals as goal

pub returns-clause-took : goal.returns-clause-took
returns-clause-took c = took c.args.board.now c.args.lock c.args.seat.now c.try_take.new.self c.try_take.result c.requires.lock
    c.requires.holds c.try_take.ensures

pub returns-clause-others : goal.returns-clause-others
returns-clause-others c = others_stay c.args.lock c.args.seat.now c.try_take.new.self c.try_take.result c.try_take.ensures
