use Rattle.std.proofs.Common.{ℕ, ◌≤◌, sym, subst, length, ap, ◌∙◌}
use Rattle.ww_view.specs.View.{IsAway}
use Rattle.ww_view.specs.May.{WantsSigns}
use Rattle.ww_table.specs.Seat.{taking_of}
use Rattle.ww_seat.specs.Orderly.{IsOrderly}
use Rattle.ww_seat.specs.Standings.{Standing, standing_of, view_in, size_in, IsTryBare}
use Rattle.ww_seat.proofs.AtOnce.{tried_settled, tried_once}
use Rattle.ww_seat.proofs.Kept.{kept, seated_at, back_at_once}
use Rattle.ww_seat.proofs.Naps.{out_tried}
use Rattle.ww_seat.proofs.seats.Seat.take_bare.Goals.{After-take_bare}
use Rattle.ww_seat.proofs.seats.Seat.take_bare.Goals as goal

-- it guards no node
bare : (c : After-take_bare) → length c.self.inside.seat.seat.me.0.held ≤ c.args.lock
bare c = subst (λ (k : ℕ). k ≤ c.args.lock) (sym (ap (λ (s : Standing). size_in s) c.self.view_is ∙ c.requires.at.size)) c.requires.may.bare

after : (c : After-take_bare) → let m' = c.take_bare.new.self.seat.me in IsOrderly (length c.self.inside.seat.seat.me.0.held) m' × IsAway m'.0.part.core
after c = tried_settled c.args.lock c.take_bare.new.self.seat.me (taking_of c.take_bare.result) c.self.invariant.orderly
    (subst (λ (s : Standing). IsAway (view_in s)) (sym c.self.view_is) c.requires.may.may.away) (bare c) c.take_bare.ensures.tried

pub invariant_of-self : goal.invariant_of-self
invariant_of-self c = kept c.take_bare.ensures.seat (after c).0

pub returns : goal.returns
returns c = let q = c.self.inside.seat in let q' = c.take_bare.new.self in
    subst (λ (s : Standing). IsTryBare s c.args.lock (taking_of c.take_bare.result) (standing_of q')) c.self.view_is (
      back_at_once (seated_at c.self.view_is c.self.invariant c.requires.at)
          c.take_bare.ensures.seat c.take_bare.ensures.records c.self.invariant.orderly (after c).0 (after c).1
          (out_tried q.seat.me q'.seat.me c.args.lock (taking_of c.take_bare.result) c.take_bare.ensures.tried),
      tried_once c.args.lock q'.seat.me (taking_of c.take_bare.result) c.self.invariant.orderly (bare c)
          (subst (λ (s : Standing). WantsSigns (view_in s)) (sym c.self.view_is) c.requires.may.may.signs) c.take_bare.ensures.tried,
    )
