use Rattle.std.proofs.Common.{rules}
use Rattle.ww_tests_below.proofs.Trying.{below_none}
use Rattle.ww_tests_below.proofs.rows.take_second.Goals as goal

pub take-requires-clause-below : goal.take-requires-clause-below
take-requires-clause-below g c = below_none c.start-one.result c.start-one.ensures.holds.owned

pub take-requires-2-clause-below : goal.take-requires-2-clause-below
take-requires-2-clause-below g c = below_none c.take.new.seat (search rules)
