use Rattle.std.proofs.Common.{refl, sym, subst, length}
use Rattle.ww_seat.specs.Orderly.{IsOrderly}
use Rattle.ww_seat.specs.Standings.{Standing, standing_of, IsGoneInToGive, MayRelease}
use Rattle.ww_seat.proofs.Gives.{owner_enters}
use Rattle.ww_seat.proofs.Kept.{kept, seated_at}
use Rattle.ww_seat.proofs.Outside.{room_outside}
use Rattle.ww_seat.proofs.Stepwise.{gone_in_to_give}
use Rattle.ww_seat.proofs.seats.Seat.enter_owned.Goals.{After-enter}
use Rattle.ww_seat.proofs.seats.Seat.enter_owned.Goals as goal

pub enter-requires-clause-may : goal.enter-requires-clause-may
enter-requires-clause-may c = let q = c.self.inside.seat in
    let may = subst (MayRelease c.args.board.now c.args.lock) (sym c.self.view_is) c.requires.may in
    record {
      lock = may.there;
      may = owner_enters q.seat.me q.seat.me c.args.lock refl may.away may.owner;
      room = room_outside c.self.invariant.orderly may.away.0;
    }

went : (c : After-enter) → IsOrderly (length c.self.inside.seat.seat.me.0.held) c.enter.new.self.seat.me
    × IsGoneInToGive (standing_of c.self.inside.seat) c.args.lock c.enter.result (standing_of c.enter.new.self)
went c = let may = subst (MayRelease c.args.board.now c.args.lock) (sym c.self.view_is) c.requires.may in
    gone_in_to_give c.enter.result
    (seated_at c.self.view_is c.self.invariant c.requires.at) c.enter.ensures c.self.invariant.orderly may.away may.owner

pub invariant_of-self : goal.invariant_of-self
invariant_of-self c = kept c.enter.ensures.seat (went c).0

pub returns : goal.returns
returns c = subst (λ (s : Standing). IsGoneInToGive s c.args.lock c.enter.result (standing_of c.enter.new.self)) c.self.view_is (went c).1
