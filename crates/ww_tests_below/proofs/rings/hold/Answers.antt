use Rattle.ww_tests_below.proofs.Holding.{may_try}
use Rattle.ww_tests_below.proofs.rings.hold.Goals as goal

pub try_take-requires-clause-may : goal.try_take-requires-clause-may
try_take-requires-clause-may g c = may_try c.start-seat.new.board c.args.lock c.start-seat.result c.requires.lock c.start-seat.ensures.holds
