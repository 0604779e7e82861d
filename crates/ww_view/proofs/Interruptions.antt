-- Which interruptions a view names.
use Rattle.std.proofs.Common.{◌≡◌, ℕ, suc, ◌+◌, ◌∷◌, refl, ap, ◌∙◌, arith}
use Rattle.ww_model.specs.declared.event.Event.TheVariants.{Leave}
use Rattle.ww_view.specs.Made.{stopped_at}
use Rattle.ww_view.specs.Laws.{InterruptionIsNoted, NoOtherIsStopped}

-- a seat that was interrupted names one more
pub stop_notes : InterruptionIsNoted
stop_notes v n s o may by = (λ i. stopped_at (may.inside i) (by i) v.stopped) ∙ unary
  where
    unary : stopped_at (suc n) (s + 1) v.stopped ≡ (n, s) ∷ v.stopped
    unary = ap (λ (mark : ℕ). stopped_at (suc n) mark v.stopped) (let z : s + 1 ≡ suc s = omega arith in z)

-- and no other event changes them
pub others_stop_none : NoOtherIsStopped
others_stop_none c (Leave s n) v other = absurd (other s n refl)
others_stop_none c _ v other = refl
