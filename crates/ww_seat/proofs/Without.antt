-- A list of locks without one of them.
use Rattle.std.proofs.Common.{◌≡◌, ◌≢◌, ℕ, ◌<◌, ◌≤◌, ◌||◌, eqb, not, cond, true≢false, Bool, true, false, List, [], ◌∷◌, length, set, get_or, refl, sym, ap, subst, ◌∙◌, arith, inl, inr}
use Rattle.std.specs.List.{AllByRecursion}
use Rattle.ww_plain.specs.Numbers.{is_among, AreDifferent}
use Rattle.ww_plain.proofs.Members.{eqb_same, true_or_false, same_from_eqb, different_head, different_tail, different_cons, different_none}
use Rattle.ww_view.specs.Made.{without}
use Rattle.ww_seat.proofs.Among.{apart, owns_held}

pub another : (n m : ℕ) → eqb n m ≡ false → m ≢ n
another n m differ e = true≢false (sym (subst (λ (k : ℕ). eqb n k ≡ true) (sym e) (eqb_same n)) ∙ differ)

-- whether it is left, by whether it is the one that goes
pub without_same : (n m : ℕ) (ms : List ℕ) → eqb m n ≡ true → without n (m ∷ ms) ≡ without n ms
without_same n m ms e = ap (λ (b : Bool). cond (not b) (m ∷ without n ms) (without n ms)) e

pub without_else : (n m : ℕ) (ms : List ℕ) → eqb m n ≡ false → without n (m ∷ ms) ≡ m ∷ without n ms
without_else n m ms e = ap (λ (b : Bool). cond (not b) (m ∷ without n ms) (without n ms)) e

gone : (n : ℕ) (ns : List ℕ) → is_among n (without n ns) ≡ false
gone n [] = refl
gone n (m ∷ ms) = elim (true_or_false (eqb m n)) [
  | inl same ↦ ap (is_among n) (without_same n m ms same) ∙ gone n ms
  | inr other ↦ ap (is_among n) (without_else n m ms other) ∙ ap (λ (b : Bool). b || is_among n (without n ms)) other ∙ gone n ms
]

stays : (n k : ℕ) (ns : List ℕ) → eqb n k ≡ false → is_among k (without n ns) ≡ is_among k ns
stays n k [] e = refl
stays n k (m ∷ ms) e = elim (true_or_false (eqb m n)) [
  | inl same ↦ ap (is_among k) (without_same n m ms same) ∙ stays n k ms e
      ∙ sym (ap (λ (b : Bool). b || is_among k ms) (subst (λ (j : ℕ). eqb j k ≡ false) (sym (same_from_eqb m n same)) e))
  | inr other ↦ ap (is_among k) (without_else n m ms other) ∙ ap (λ (b : Bool). eqb m k || b) (stays n k ms e)
]

pub owns_less : (owned new : List Bool) (held : List ℕ) (n : ℕ) → n < length owned → new ≡ set owned n false
    → ((m : ℕ) → get_or owned m false ≡ is_among m held) → (m : ℕ)
    → get_or new m false ≡ is_among m (without n held)
owns_less owned new held n lt is owns = owns_held owned held (without n held) n lt is owns (gone n held)
    (λ m differ. stays n m held (apart n m differ))

pub all_without : (P : ℕ → Type 0) (n : ℕ) (ns : List ℕ) → AllByRecursion P ns → AllByRecursion P (without n ns)
all_without P n [] all = tt
all_without P n (m ∷ ms) all = elim (true_or_false (eqb m n)) [
  | inl same ↦ subst (AllByRecursion P) (sym (without_same n m ms same)) (all_without P n ms all.1)
  | inr other ↦ subst (AllByRecursion P) (sym (without_else n m ms other)) (all.0, all_without P n ms all.1)
]

absent_without : (n k : ℕ) (ns : List ℕ) → is_among k ns ≡ false → is_among k (without n ns) ≡ false
absent_without n k ns e = elim (true_or_false (eqb n k)) [
  | inl same ↦ subst (λ (j : ℕ). is_among j (without n ns) ≡ false) (same_from_eqb n k same) (gone n ns)
  | inr other ↦ stays n k ns other ∙ e
]

pub different_without : (n : ℕ) (ns : List ℕ) → AreDifferent ns → AreDifferent (without n ns)
different_without n [] d = different_none
different_without n (m ∷ ms) d = elim (true_or_false (eqb m n)) [
  | inl same ↦ subst AreDifferent (sym (without_same n m ms same)) (different_without n ms (different_tail m ms d))
  | inr other ↦ subst AreDifferent (sym (without_else n m ms other))
      (different_cons m (without n ms) (absent_without n m ms (different_head m ms d))
      (different_without n ms (different_tail m ms d)))
]

no_longer : (n : ℕ) (ns : List ℕ) → length (without n ns) ≤ length ns
no_longer n [] = omega arith
no_longer n (m ∷ ms) = let rest = no_longer n ms in elim (true_or_false (eqb m n)) [
  | inl same ↦ omega (arith, rest, ap length (without_same n m ms same))
  | inr other ↦ omega (arith, rest, ap length (without_else n m ms other))
]

-- what is in the list makes it shorter as it goes
pub shorter : (n : ℕ) (ns : List ℕ) → is_among n ns ≡ true → length (without n ns) < length ns
shorter n [] e = absurd (true≢false (sym e))
shorter n (m ∷ ms) e = elim (true_or_false (eqb m n)) [
  | inl same ↦ let rest = no_longer n ms in omega (arith, rest, ap length (without_same n m ms same))
  | inr other ↦
      let there : is_among n ms ≡ true = sym (ap (λ (b : Bool). b || is_among n ms) other) ∙ e in
      let rest = shorter n ms there in omega (arith, rest, ap length (without_else n m ms other))
]
