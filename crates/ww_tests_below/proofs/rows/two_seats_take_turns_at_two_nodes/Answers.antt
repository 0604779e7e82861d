use Rattle.std.proofs.Common.{rules}
use Rattle.ww_tests_below.proofs.Gathered.{all_come}
use Rattle.ww_tests_below.proofs.rows.two_seats_take_turns_at_two_nodes.Goals as goal

pub closed-requires : goal.closed-requires
closed-requires g c = all_come c.give_both-one.new.board c.in_ok-seats.seats.items c.in_ok-seats.ensures.come (search rules)
