use Rattle.std.proofs.Common.{rules, arith}
use Rattle.ww_tests_below.proofs.Holding.{may_try, none_owns}
use Rattle.ww_tests_below.proofs.rings.miss.Goals as goal

pub try_take-requires-clause-may : goal.try_take-requires-clause-may
try_take-requires-clause-may g c = may_try c.args.board.now 0 c.args.seat.now (omega arith) c.requires

pub returns : goal.returns
returns g c = record {
  small = c.requires.small;
  at = search rules;
  context = search rules;
  owned = search rules;
  nodes = none_owns c.try_take.new.self (search rules);
  there = omega arith;
  want = search rules;
  outside = search rules;
  place = search rules;
  comes = search rules;
}
