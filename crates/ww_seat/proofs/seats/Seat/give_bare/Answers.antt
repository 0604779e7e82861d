use Rattle.std.proofs.Common.{ℕ, ◌≤◌, ap, sym, subst, length, ◌∙◌}
use Rattle.ww_view.specs.View.{IsAway}
use Rattle.ww_table.specs.Seat.{giving_of}
use Rattle.ww_seat.specs.Calls.{HasLetOnce}
use Rattle.ww_seat.specs.Orderly.{IsOrderly}
use Rattle.ww_seat.specs.Standings.{Standing, standing_of, view_in, size_in, IsGiveBare}
use Rattle.ww_seat.proofs.Gives.{let_once}
use Rattle.ww_seat.proofs.Kept.{kept, seated_at, back_at_once}
use Rattle.ww_seat.proofs.Naps.{out_let}
use Rattle.ww_seat.proofs.seats.Seat.give_bare.Goals.{After-give_bare}
use Rattle.ww_seat.proofs.seats.Seat.give_bare.Goals as goal

after : (c : After-give_bare) → let q = c.self.inside.seat in let m' = c.give_bare.new.self.seat.me in
    IsOrderly (length q.seat.me.0.held) m' × IsAway m'.0.part.core
    × HasLetOnce q.seat.me c.args.lock (giving_of c.give_bare.result) m'
after c = let_once c.args.lock c.give_bare.new.self.seat.me (giving_of c.give_bare.result)
    c.self.invariant.orderly (subst (λ (s : Standing). IsAway (view_in s)) (sym c.self.view_is) c.requires.may.away)
    (subst (λ (k : ℕ). k ≤ c.args.lock) (sym (ap (λ (s : Standing). size_in s) c.self.view_is ∙ c.requires.at.size)) c.requires.may.bare)
    c.give_bare.ensures.tried

pub invariant_of-self : goal.invariant_of-self
invariant_of-self c = kept c.give_bare.ensures.seat (after c).0

pub returns : goal.returns
returns c = let q = c.self.inside.seat in let q' = c.give_bare.new.self in
    subst (λ (s : Standing). IsGiveBare s c.args.lock (giving_of c.give_bare.result) (standing_of q')) c.self.view_is (
      back_at_once (seated_at c.self.view_is c.self.invariant c.requires.at)
          c.give_bare.ensures.seat c.give_bare.ensures.records c.self.invariant.orderly (after c).0 (after c).1
          (out_let q.seat.me q'.seat.me c.args.lock (giving_of c.give_bare.result) c.give_bare.ensures.tried),
      (after c).2,
    )
