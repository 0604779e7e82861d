use Rattle.std.proofs.Common.{sym, subst, ◌∙◌, ℕ, ◌<◌}
use Rattle.ww_word.specs.AnySeats.{Fits}
use Rattle.ww_seat.proofs.Stood.{has_stood}
use Rattle.ww_seat.proofs.standing.stand.Goals as goal

pub returns-clause-stands : goal.returns-clause-stands
returns-clause-stands c = let at = c.requires.at.1 in
    has_stood at.orderly (sym c.has_joined.ensures ∙ c.if-has_joined.false) at.working.inside
    (subst (λ (x : ℕ × ℕ). x.0 < x.1) (λ i. (sym at.seat.who i, sym at.seat.seats i)) at.seat.few)
    (subst (λ (x : ℕ × ℕ). Fits x.0 x.1) (λ i. (sym at.seat.who i, sym at.seat.stamp i)) at.seat.fits) c.requires.seen
    (c.join.ensures.joined c.if-not-join.false) c.with_waiters.ensures.same (c.with_waiters.ensures.valid c.requires.seen.valid)
