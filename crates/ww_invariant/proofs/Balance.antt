-- Each cancel that was set was heeded or is pending: what the steps on cancels make of that.
use Rattle.std.proofs.Common.{◌≡◌, ◌≢◌, ◌+◌, ◌-◌, ◌==◌, ℕ, zero, suc, ◌∷◌, refl, sym, ap, ◌∙◌, arith}
use Rattle.ww_queue.proofs.Outcomes.{number_other}
use Rattle.ww_model.specs.State.{put, one_if}
use Rattle.ww_model.specs.Interrupts.{one_of}
use Rattle.ww_model.proofs.Outcomes.{number_same}
use Rattle.ww_model.proofs.Puts.{put_cases, puts_cases}
use Rattle.ww_model.proofs.Counts.{one_of_nobody, one_before}
use Rattle.ww_invariant.specs.declared.cells.Counts.{Counts}
use Rattle.ww_invariant.specs.Rule.{times, total, Balanced}

pub total_alike : (n : ℕ) (f g : ℕ → ℕ) → ((t : ℕ) → f t ≡ g t) → total n f ≡ total n g
total_alike zero f g same = refl
total_alike (suc n) f g same = let a = same n in let b = total_alike n f g same in omega arith

module _ (cancel : ℕ → ℕ) (counts : ℕ → Counts) (old : Balanced cancel counts) (w : ℕ) where
  -- once it has set the cancel of u
  abbrev pub with_cancelled : ℕ → Counts
  with_cancelled u = record (counts w) { cancelled = u ∷ (counts w).cancelled }

  pub cancelled_on : (u : ℕ) → cancel u ≡ 0 → Balanced (put cancel u (w + 1)) (put counts w (with_cancelled u))
  cancelled_on u free s v = let x = with_cancelled u in let p = put counts w x in let o = old s v in let nobody = one_of_nobody s v in
      let heeds = ap (times s) (put_cases counts w x v (λ y. y.heeded ≡ (counts v).heeded)
      (λ is. ap (λ (y : ℕ). (counts y).heeded) (sym is)) (λ _. refl)) in
      put_cases counts w x s (λ y. times v y.cancelled ≡ times s (p v).heeded + one_of s v (put cancel u (w + 1) v))
      (λ is. let own = ap (λ (y : ℕ). times v (counts y).cancelled) is in
      put_cases cancel u (w + 1) v (λ m. one_if (u == v) + times v (counts w).cancelled ≡ times s (p v).heeded + one_of s v m)
      (λ same. let a = ap one_if (number_same u v (sym same)) in
      let b = ap one_if (number_same (w + 1) (s + 1) (let z = is in omega arith)) in
      let d = ap (one_of s v) (ap cancel same ∙ free) in omega arith)
      (λ isnt. let a = ap one_if (number_other u v (λ z. isnt (sym z))) in omega arith))
      (λ other. put_cases cancel u (w + 1) v (λ m. times v (counts s).cancelled ≡ times s (p v).heeded + one_of s v m)
      (λ same. let b = ap one_if (number_other (w + 1) (s + 1) (λ z. other (omega arith))) in
      let d = ap (one_of s v) (ap cancel same ∙ free) in omega arith)
      (λ isnt. omega arith))

  -- once it has heeded its own
  abbrev pub with_heeded : Counts
  with_heeded = record (counts w) { heeded = (cancel w - 1) ∷ (counts w).heeded }

  pub heeded_on : cancel w ≢ 0 → Balanced (put cancel w 0) (put counts w with_heeded)
  heeded_on some s v = let x = with_heeded in let p = put counts w x in let o = old s v in let nobody = one_of_nobody s v in
      let sets = ap (times v) (put_cases counts w x s (λ y. y.cancelled ≡ (counts s).cancelled)
      (λ is. ap (λ (y : ℕ). (counts y).cancelled) (sym is)) (λ _. refl)) in
      puts_cases cancel counts w 0 x v (λ m y. times v (p s).cancelled ≡ times s y.heeded + one_of s v m)
      (λ is. let a = ap (λ (y : ℕ). times s (counts y).heeded) is in
      let b = ap (λ (y : ℕ). one_of s v (cancel y)) is in let d = one_before s v (cancel w) some in omega arith)
      (λ isnt. omega arith)
