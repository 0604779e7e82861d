use Rattle.std.proofs.Common.{rules}
use Rattle.ww_tests_below.proofs.Trying.{may_commit}
use Rattle.ww_tests_below.proofs.rows.commit_once.Goals as goal

pub commit-requires-clause-may : goal.commit-requires-clause-may
commit-requires-clause-may g = may_commit g.args.board.now g.args.x g.args.y g.args.seat.now g.reserve.new.self g.who.result
    g.commits-seq.result g.of.result.value g.in_ok-done.done g.change.result g.change-2.result g.requires.both g.reserve.ensures.same
    (search rules) g.in_ok-done.ensures (search rules) (search rules) g.change.ensures g.change-2.ensures (search rules) (search rules)
