use Rattle.std.proofs.Common.{ℕ, ◌≡◌, true, true≢false, ⊎_elim, refl, sym, subst, ◌∙◌}
use mathlib.Core.Logic.{dite}
use native.Mathlib.Decide.{ℕ_discrete}
use Rattle.ww_view.specs.declared.view.View.{View}
use Rattle.ww_view.specs.View.{owns, IsQuiet}
use Rattle.ww_seat.specs.Standings.{MayLookSigned}
use Rattle.ww_seat.proofs.Kept.{kept}
use Rattle.ww_seat.proofs.Outside.{orderly_knowing}
use Rattle.ww_seat.proofs.seats.Seat.sign.Goals as goal

-- outside the guards others may sign a seat that owns a lock
not_quiet : (v : View) → v.inside ≡ 0 → (n : ℕ) × (owns v n ≡ true) → ¬ IsQuiet v
not_quiet v outside owner = ⊎_elim (λ bare. true≢false (sym owner.1 ∙ bare owner.0)) (λ dies. dies.1 outside)

pub invariant_of-self : goal.invariant_of-self
invariant_of-self c = let may = subst MayLookSigned (sym c.self.view_is) c.requires.may in let o = c.self.invariant.orderly in
    kept c.own_sign.ensures.seat (dite (ℕ_discrete c.own_sign.result 0)
    (λ none. orderly_knowing o (c.own_sign.ensures.unsigned none (not_quiet c.self.inside.seat.seat.me.0.part.core may.outside may.owner)) refl refl)
    (λ some. orderly_knowing o (c.own_sign.ensures.signed some) refl refl))
