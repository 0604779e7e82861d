use Rattle.std.proofs.Common.{subst, length}
use Rattle.ww_seat.specs.Orderly.{IsOrderly}
use Rattle.ww_seat.specs.Standings.{Standing, standing_of, IsGoneIn}
use Rattle.ww_seat.proofs.Kept.{kept, seated_at}
use Rattle.ww_seat.proofs.Outside.{room_outside}
use Rattle.ww_seat.proofs.Stepwise.{outside_of, gone_in}
use Rattle.ww_seat.proofs.Waitings.{wanter_enters}
use Rattle.ww_seat.proofs.seats.Seat.enter_wanted.Goals.{After-enter}
use Rattle.ww_seat.proofs.seats.Seat.enter_wanted.Goals as goal

pub enter-requires-clause-may : goal.enter-requires-clause-may
enter-requires-clause-may c = let out = outside_of c.self.view_is c.self.invariant c.requires.may in record {
  lock = c.requires.may.there;
  may = wanter_enters out;
  room = room_outside c.self.invariant.orderly out.outside;
}

went : (c : After-enter) → IsOrderly (length c.self.inside.seat.seat.me.0.held) c.enter.new.self.seat.me
    × IsGoneIn (standing_of c.self.inside.seat) c.args.lock c.enter.result (standing_of c.enter.new.self)
went c = gone_in c.enter.result (seated_at c.self.view_is c.self.invariant c.requires.at) c.enter.ensures
    (outside_of c.self.view_is c.self.invariant c.requires.may)

pub invariant_of-self : goal.invariant_of-self
invariant_of-self c = kept c.enter.ensures.seat (went c).0

pub returns : goal.returns
returns c = subst (λ (s : Standing). IsGoneIn s c.args.lock c.enter.result (standing_of c.enter.new.self)) c.self.view_is (went c).1
