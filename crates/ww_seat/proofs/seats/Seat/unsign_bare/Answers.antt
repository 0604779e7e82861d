use Rattle.std.proofs.Common.{refl, sym, subst, inl}
use Rattle.ww_view.specs.View.{IsBare}
use Rattle.ww_seat.specs.Standings.{Standing, view_in}
use Rattle.ww_seat.proofs.Kept.{kept}
use Rattle.ww_seat.proofs.Outside.{orderly_knowing}
use Rattle.ww_seat.proofs.seats.Seat.unsign_bare.Goals as goal

pub invariant_of-self : goal.invariant_of-self
invariant_of-self c = let bare = subst (λ (s : Standing). IsBare (view_in s)) (sym c.self.view_is) c.requires.bare.1 in
    kept c.own_sign.ensures.seat (orderly_knowing c.self.invariant.orderly (c.own_sign.ensures.quiet c.if-own_sign-eq0.true (inl bare)) refl refl)
