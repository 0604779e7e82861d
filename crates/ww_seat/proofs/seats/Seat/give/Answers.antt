use Rattle.std.proofs.Common.{ℕ, ◌<◌, ap, sym, subst, length, ◌∙◌}
use Rattle.ww_view.specs.View.{IsAway}
use Rattle.ww_seat.specs.Calls.{HasStayedOut}
use Rattle.ww_seat.specs.Orderly.{IsOrderly}
use Rattle.ww_seat.specs.Standings.{Standing, standing_of, view_in, size_in, HasLetNode, IsGive, MayReleaseNode}
use Rattle.ww_seat.proofs.Gives.{node_out, gave_or_kept}
use Rattle.ww_seat.proofs.Kept.{kept, seated_at, back_at_once}
use Rattle.ww_seat.proofs.seats.Seat.give.Goals.{After-give_free}
use Rattle.ww_seat.proofs.seats.Seat.give.Goals as goal

pub give_free-requires-clause-may : goal.give_free-requires-clause-may
give_free-requires-clause-may c = let may = subst (MayReleaseNode c.args.board.now c.args.lock) (sym c.self.view_is) c.requires.may in record {
  lock = may.there;
  away = may.away;
  owner = may.owner;
  out = node_out c.args.lock c.self.invariant.orderly
      (subst (λ (k : ℕ). c.args.lock < k) (sym (ap (λ (s : Standing). size_in s) c.self.view_is ∙ c.requires.at.size)) may.there)
      may.owner;
}

after : (c : After-give_free) → let m = c.self.inside.seat.seat.me in let m' = c.give_free.new.self.seat.me in
    IsOrderly (length m.0.held) m' × IsAway m'.0.part.core × HasStayedOut m.0.part.core m'.0.part.core
    × HasLetNode m c.args.lock c.give_free.result m'
after c = gave_or_kept c.args.lock c.give_free.result c.give_free.new.self.seat.me c.self.invariant.orderly
    (subst (λ (s : Standing). IsAway (view_in s)) (sym c.self.view_is) c.requires.may.away)
    (subst (λ (k : ℕ). c.args.lock < k) (sym (ap (λ (s : Standing). size_in s) c.self.view_is ∙ c.requires.at.size)) c.requires.may.there)
    c.give_free.ensures.gave c.give_free.ensures.kept

pub invariant_of-self : goal.invariant_of-self
invariant_of-self c = kept c.give_free.ensures.seat (after c).0

pub returns : goal.returns
returns c = let q' = c.give_free.new.self in
    subst (λ (s : Standing). IsGive s c.args.lock c.give_free.result (standing_of q')) c.self.view_is (
      back_at_once (seated_at c.self.view_is c.self.invariant c.requires.at)
          c.give_free.ensures.seat c.give_free.ensures.records c.self.invariant.orderly (after c).0 (after c).1 (after c).2,
      (after c).3,
    )
