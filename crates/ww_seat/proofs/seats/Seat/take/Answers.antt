use Rattle.std.proofs.Common.{ℕ, ◌<◌, ap, sym, subst, length, ◌∙◌, append-nil, []}
use Rattle.ww_view.specs.View.{owns}
use Rattle.ww_seat.specs.Standings.{Standing, view_in, size_in, MayTake}
use Rattle.ww_seat.proofs.AtOnce.{IsTaken, taken_at_once}
use Rattle.ww_seat.proofs.Kept.{kept}
use Rattle.ww_seat.proofs.Outside.{room_outside}
use Rattle.ww_seat.proofs.seats.Seat.take.Goals.{After-top_node}
use Rattle.ww_seat.proofs.seats.Seat.take.Goals as goal

pub take_free-requires-clause-may : goal.take_free-requires-clause-may
take_free-requires-clause-may c = let may = subst (MayTake c.args.board.now c.args.lock) (sym c.self.view_is) c.requires.may in record {
  lock = may.there;
  may = may.may;
  room = room_outside c.self.invariant.orderly may.may.away.0;
}

taken : (c : After-top_node) → IsTaken (length c.self.inside.seat.seat.me.0.held) c.args.lock c.top_node.result
    c.self.inside.seat.seat.me c.top_node.new.self.seat.me
taken c = let won = c.take_free.ensures.took c.if-not-take_free.false in let read = c.top_node.ensures.read in
    taken_at_once c.args.lock c.top_node.result
    c.take_free.new.self.seat.me c.top_node.new.self.seat.me c.self.invariant.orderly
    (subst (λ (k : ℕ). c.args.lock < k) (sym (ap (λ (s : Standing). size_in s) c.self.view_is ∙ c.requires.at.size)) c.requires.may.there)
    (ap (λ (s : Standing). owns (view_in s) c.args.lock) c.self.view_is ∙ c.requires.may.lacks) (record { node = won.0; fits = won.1; now = won.2 })
    (record { others = read.0; are = record { front = []; back = read.0; parts = read.1; rest = sym (append-nil read.0) }; now = read.2 })

pub invariant_of-self-2 : goal.invariant_of-self-2
invariant_of-self-2 c = kept c.top_node.ensures.seat (taken c).orderly
