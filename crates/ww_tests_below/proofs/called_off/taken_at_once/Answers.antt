use Rattle.std.proofs.Common.{rules, arith}
use Rattle.ww_tests_below.proofs.Holding.{may_try}
use Rattle.ww_tests_below.proofs.called_off.taken_at_once.Goals as goal

pub try_take-requires-clause-may : goal.try_take-requires-clause-may
try_take-requires-clause-may g c = may_try c.compare-2.new.board 0 c.args.stopped.now (omega arith) (search rules)
