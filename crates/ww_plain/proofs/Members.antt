-- Membership in lists of node numbers, and lists in which no number stands twice.
use Rattle.std.proofs.Common.{◌≡◌, ℕ, Bool, true, false, ◌||◌, inl, inr, eqb, List, [], ◌∷◌, ◌++◌, refl, ap, subst, ◌∙◌, arith}
use Rattle.std.specs.List.{IsDistinct, AllByRecursion}
use Rattle.std.proofs.lemmas.Bool.Decides.{nat_tests}
pub use Rattle.std.proofs.lemmas.Bool.{or_cases, or_right, or_parts as or_false, cases_Bool as true_or_false, eqb-true as same_from_eqb}
use Rattle.ww_plain.specs.Numbers.{is_among, AreDifferent}

pub eqb_same : (n : ℕ) → eqb n n ≡ true
eqb_same n = grind (arith, nat_tests)

pub eqb_comm : (m n : ℕ) → eqb m n ≡ false → eqb n m ≡ false
eqb_comm m n e = grind (arith, nat_tests)

pub is_among-head : (n : ℕ) (ns : List ℕ) → is_among n (n ∷ ns) ≡ true
is_among-head n ns = ap (λ b. b || is_among n ns) (eqb_same n)

pub is_among-tail : (m n : ℕ) (ns : List ℕ) → is_among n ns ≡ true → is_among n (m ∷ ns) ≡ true
is_among-tail m n ns e = or_right (eqb m n) (is_among n ns) e

-- what holds of the head and of each of the tail holds of each
pub among_cons : (P : ℕ → Type 0) (m : ℕ) (ms : List ℕ) → P m → ((n : ℕ) → is_among n ms ≡ true → P n) → (n : ℕ)
    → is_among n (m ∷ ms) ≡ true → P n
among_cons P m ms here there n e =
    elim (or_cases (eqb m n) (is_among n ms) e) [ inl same ↦ subst P (same_from_eqb m n same) here | inr later ↦ there n later ]

pub is_among-append : (n : ℕ) (ms ns : List ℕ) → is_among n (ms ++ ns) ≡ (is_among n ms || is_among n ns)
is_among-append n [] ns = refl
is_among-append n (m ∷ ms) ns = ap (λ b. eqb m n || b) (is_among-append n ms ns) ∙ or_assoc (eqb m n) (is_among n ms) (is_among n ns)
  where
    or_assoc : (a b c : Bool) → (a || (b || c)) ≡ ((a || b) || c)
    or_assoc true b c = refl
    or_assoc false b c = refl

pub others_from_not_among : (n : ℕ) (ns : List ℕ) → is_among n ns ≡ false → AllByRecursion (λ m. eqb n m ≡ false) ns
others_from_not_among n [] e = tt
others_from_not_among n (m ∷ ms) e =
    let both = or_false (eqb m n) (is_among n ms) e in (eqb_comm m n both.0, others_from_not_among n ms both.1)

pub not_among_from_others : (n : ℕ) (ns : List ℕ) → AllByRecursion (λ m. eqb n m ≡ false) ns → is_among n ns ≡ false
not_among_from_others n [] h = refl
not_among_from_others n (m ∷ ms) h = ap (λ b. b || is_among n ms) (eqb_comm n m h.0) ∙ not_among_from_others n ms h.1

pub different_cons : (n : ℕ) (ns : List ℕ) → is_among n ns ≡ false → AreDifferent ns → AreDifferent (n ∷ ns)
unfolding IsDistinct
different_cons n ns e h = (others_from_not_among n ns e, h)

pub different_head : (n : ℕ) (ns : List ℕ) → AreDifferent (n ∷ ns) → is_among n ns ≡ false
unfolding IsDistinct
different_head n ns h = not_among_from_others n ns h.0

pub different_tail : (n : ℕ) (ns : List ℕ) → AreDifferent (n ∷ ns) → AreDifferent ns
unfolding IsDistinct
different_tail n ns h = h.1

pub different_none : AreDifferent []
unfolding IsDistinct
different_none = tt

pub different_push : (ns : List ℕ) (n : ℕ) → AreDifferent ns → is_among n ns ≡ false → AreDifferent (ns ++ n ∷ [])
unfolding IsDistinct
different_push [] n h e = (tt, tt)
different_push (m ∷ ms) n h e =
    let both = or_false (eqb m n) (is_among n ms) e in (others_push m ms n h.0 both.0, different_push ms n h.1 both.1)
  where
    others_push : (m : ℕ) (ms : List ℕ) (n : ℕ) → AllByRecursion (λ k. eqb m k ≡ false) ms → eqb m n ≡ false
        → AllByRecursion (λ k. eqb m k ≡ false) (ms ++ n ∷ [])
    others_push m [] n h e = (e, tt)
    others_push m (k ∷ ks) n h e = (h.0, others_push m ks n h.1 e)
