use Rattle.std.proofs.Common.{rules}
use Rattle.std.specs.Fn.{FnOnceReturnsAt}
use Rattle.ww_txn.proofs.Undecided.{told_undecided}
use Rattle.ww_txn.proofs.changing.change.Goals as goal

pub returns-in-Err-prepare_decided-clause-answer : goal.returns-in-Err-prepare_decided-clause-answer
returns-in-Err-prepare_decided-clause-answer g c =
    told_undecided (FnOnceReturnsAt g.F.FnOnce c.args.decide) c.args.pass c.fini.result c.args.list.now
    c.in-Err-prepare_decided.fault (search rules) (search rules) (search rules)
