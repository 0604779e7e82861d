use Rattle.std.proofs.Common.{rules}
use Rattle.ww_view.specs.View.{IsAway}
use Rattle.ww_table.specs.Seat.{size_of}
use Rattle.ww_seat.specs.Calls.{HasGiven}
use Rattle.ww_seat.specs.Orderly.{IsOrderly}
use Rattle.ww_seat.proofs.Holds.{holds_same}
use Rattle.ww_seat.proofs.Gives.{read_still, read_giving, has_let}
use Rattle.ww_seat.proofs.Kept.{kept}
use Rattle.ww_seat.proofs.Stepwise.{giving_of}
use Rattle.ww_seat.proofs.There.{first_there}
use Rattle.ww_seat.proofs.seats.Seat.give_on.Goals.{After-exit}
use Rattle.ww_seat.proofs.seats.Seat.give_on.Goals as goal

pub give_seen-requires-clause-giving : goal.give_seen-requires-clause-giving
give_seen-requires-clause-giving c = read_giving (giving_of c.self.view_is c.self.invariant c.requires.at c.requires.may.1)
    c.look-seen.ensures.looked c.first-first.ensures.read

-- outside again
out : (c : After-exit) → let m = c.self.inside.seat.seat.me in let m' = c.exit.new.self.seat.me in
    IsOrderly (size_of c.args.board.now) m' × IsAway m'.0.part.core × HasGiven m c.args.lock m'
out c = let m = c.self.inside.seat.seat.me in
    has_let m c.exit.new.self.seat.me (read_still m m (holds_same m) c.look-seen.ensures.looked c.first-first.ensures.read)
    c.give_seen.ensures.gave c.exit.ensures.view c.exit.ensures.home

pub returns-clause-few : goal.returns-clause-few
returns-clause-few c = first_there c.args.board.now c.look-seen.new.self _ c.first-first.result c.look-seen.ensures.seat
    (search rules) c.first-first.ensures.first

pub invariant_of-self : goal.invariant_of-self
invariant_of-self c = kept c.exit.ensures.seat (out c).0
