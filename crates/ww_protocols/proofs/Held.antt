-- How a bit goes on to tell of who has something.
use Rattle.std.proofs.Common.{◌≡◌, ⊎_elim, ℕ, Bool, true, false, refl, sym, ◌∙◌, subst, true≢false}
use Rattle.ww_protocols.specs.Seat.{set}
use Rattle.ww_protocols.specs.Seats.{SaysWho}
use Rattle.ww_protocols.proofs.Sets.{set_here, set_was}

pub not_both : {A : Type 0} {b : Bool} → b ≡ true → b ≡ false → A
not_both is isnt = absurd (true≢false (sym is ∙ isnt))

pub false_unless : (b : Bool) → (b ≡ true → ⊥) → b ≡ false
false_unless true isnt = absurd (isnt refl)
false_unless false isnt = refl

module _ {bit : Bool} {has : ℕ → Bool} (h : SaysWho bit has) where
  pub nobody_has : bit ≡ false → (t : ℕ) → has t ≡ false
  nobody_has free t = false_unless (has t) (λ is. not_both (h.is_set t is) free)

  pub comes : bit ≡ false → (t : ℕ) → SaysWho true (set has t true)
  comes free t = record {
    somebody = λ _. (t, set_here has t true);
    is_set = λ _ _. refl;
    one = λ u v p q. it u p ∙ sym (it v q);
  }
    where
      it : (u : ℕ) → set has t true u ≡ true → u ≡ t
      it u p = ⊎_elim (λ here. here.0) (λ there. not_both there.1 (nobody_has free u)) (set_was has t true u (λ b. b ≡ true) p)

  pub goes : (t : ℕ) → has t ≡ true → SaysWho false (set has t false)
  goes t was = record {
    somebody = λ is. not_both is refl;
    is_set = λ u p. absurd (nobody u p);
    one = λ u v p _. absurd (nobody u p);
  }
    where
      nobody : (u : ℕ) → set has t false u ≡ true → ⊥
      nobody u p = ⊎_elim (λ here. not_both here.1 refl) (λ there. there.0 (h.one u t there.1 was)) (set_was has t false u (λ b. b ≡ true) p)

pub moves : {bit : Bool} {has : ℕ → Bool} → SaysWho bit has → (t u : ℕ) → has t ≡ true → SaysWho bit (set (set has t false) u true)
moves {bit} {has} h t u was = subst (λ b. SaysWho b (set (set has t false) u true)) (sym (h.is_set t was)) (comes (goes h t was) refl u)
