-- The numbers of seats that are one.
use Rattle.std.proofs.Common.{◌≡◌, ◌≢◌, ⊎_elim, inl, inr, ℕ, suc, eqb, eq-eqb, ne_eqb, true, false, true≢false, List, [], ◌∷◌, map, refl, sym, ap, ◌∙◌, arith}
use Rattle.std.specs.List.{list_any, AllByRecursion, IsDistinct}
use Rattle.std.proofs.lemmas.Bool.{eqb-true}
use mathlib.Core.Option.{some}
use lib.ListN.{get_elem?}
use Rattle.ww_queue.specs.Queue.{Has}
use Rattle.ww_model.proofs.Outcomes.{or_true, true_or}
use Rattle.ww_invariant.specs.declared.cells.Part.{Part}

abbrev pub numbers_in : List Part → List ℕ
numbers_in parts = map (λ p. p.core.who) parts

pub has_number : (parts : List Part) (p : Part) (q : ℕ) → Has parts p → p.core.who ≡ q → list_any (eqb q) (numbers_in parts) ≡ true
has_number [] p q h is = absurd h
has_number (x ∷ parts) p q h is = ⊎_elim
    (λ same. true_or (eqb q x.core.who) (list_any (eqb q) (numbers_in parts))
    (inl (eq-eqb q x.core.who (sym is ∙ ap (λ (y : Part). y.core.who) same))))
    (λ more. true_or (eqb q x.core.who) (list_any (eqb q) (numbers_in parts)) (inr (has_number parts p q more is)))
    h

pub number_has : (parts : List Part) (q : ℕ) → list_any (eqb q) (numbers_in parts) ≡ true → (p : Part) × Has parts p × (p.core.who ≡ q)
number_has [] q is = absurd (true≢false (sym is))
number_has (x ∷ parts) q is = ⊎_elim
    (λ here. (x, inl refl, sym (eqb-true q x.core.who here)))
    (λ later. let t = number_has parts q later in (t.0, inr t.1, t.2))
    (or_true (eqb q x.core.who) (list_any (eqb q) (numbers_in parts)) is)

is_apart : (q : ℕ) (parts : List Part) → ((k : ℕ) (p : Part) → get_elem? parts k ≡ some p → p.core.who ≢ q)
    → AllByRecursion (λ n. eqb q n ≡ false) (numbers_in parts)
is_apart q [] apart = tt
is_apart q (x ∷ parts) apart = (
  ne_eqb q x.core.who (λ same. apart 0 x refl (sym same)),
  is_apart q parts
      (λ k p there. apart (suc k) p there),
)

all_differ : (parts : List Part) → ((k l : ℕ) (p q : Part) → get_elem? parts k ≡ some p → get_elem? parts l ≡ some q
    → p.core.who ≡ q.core.who → k ≡ l) → IsDistinct eqb (numbers_in parts)
unfolding IsDistinct
all_differ [] differ = tt
all_differ (x ∷ parts) differ = (
  is_apart x.core.who parts (λ k p there same. let z = differ (suc k) 0 p x there refl same in omega arith),
  all_differ parts (λ k l p q a b same. let z = differ (suc k) (suc l) p q a b same in omega arith),
)

-- the number of a seat and those that lie idle in it
pub first_differs : (first : Part) (parts : List Part) → ((k : ℕ) (p : Part) → get_elem? parts k ≡ some p → p.core.who ≢ first.core.who)
    → ((k l : ℕ) (p q : Part) → get_elem? parts k ≡ some p → get_elem? parts l ≡ some q → p.core.who ≡ q.core.who
    → k ≡ l) → IsDistinct eqb (numbers_in (first ∷ parts))
unfolding IsDistinct
first_differs first parts apart differ = (is_apart first.core.who parts apart, all_differ parts differ)
