use Rattle.ww_tests_below.proofs.Gathered.{rests_come}
use Rattle.ww_tests_below.proofs.rows.come_back.Goals as goal

pub returns : goal.returns
returns g = rests_come g.args._board.now g.args.seat g.into_inner.result g.requires g.into_inner.ensures.is g.into_inner.ensures.kept
