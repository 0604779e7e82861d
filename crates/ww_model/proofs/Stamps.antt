-- Each event keeps the stamps in order.
use Rattle.std.proofs.Common.{◌≡◌, ◌+◌, ◌<◌, ◌≤◌, sym, ◌∙◌, arith}
use Rattle.ww_model.specs.declared.event.Event.TheVariants.{Begin, End}
use Rattle.ww_model.specs.State.{put}
use Rattle.ww_model.specs.Lawful.{Stamps, KeepsBase}
use Rattle.ww_model.proofs.Puts.{put_cases}

pub keeps_stamps : KeepsBase (λ c. Stamps c.drawn c.stamp)
keeps_stamps c (Begin s) can l = record {
  differ = λ t u. put_cases c.stamp s (c.drawn + 1) t (λ x. 0 < x → x ≡ put c.stamp s (c.drawn + 1) u → t ≡ u)
      (λ is _. put_cases c.stamp s (c.drawn + 1) u (λ y. c.drawn + 1 ≡ y → t ≡ u) (λ is' _. is ∙ sym is')
      (λ _ e. let b = l.stamps.below u in absurd (omega arith)))
      (λ _ h. put_cases c.stamp s (c.drawn + 1) u (λ y. c.stamp t ≡ y → t ≡ u)
      (λ _ e. let b = l.stamps.below t in absurd (omega arith)) (λ _ e. l.stamps.differ t u h e));
  below = λ t. put_cases c.stamp s (c.drawn + 1) t (λ x. x ≤ c.drawn + 1) (λ _. omega arith) (λ _. let b = l.stamps.below t in omega arith);
}
keeps_stamps c (End s) can l = record {
  differ = λ t u. put_cases c.stamp s 0 t (λ x. 0 < x → x ≡ put c.stamp s 0 u → t ≡ u)
      (λ _ h. absurd (omega arith))
      (λ _ h. put_cases c.stamp s 0 u (λ y. c.stamp t ≡ y → t ≡ u) (λ _ e. absurd (omega arith)) (λ _ e. l.stamps.differ t u h e));
  below = λ t. put_cases c.stamp s 0 t (λ x. x ≤ c.drawn) (λ _. omega arith) (λ _. l.stamps.below t);
}
keeps_stamps c _ can l = l.stamps
