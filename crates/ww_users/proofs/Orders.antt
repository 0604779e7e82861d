-- An entry is moved to the head of a list.
use Rattle.std.proofs.Common.{◌≡◌, ℕ, suc, ◌<◌, ◌⊎◌, inl, inr, eqb, List, [], ◌∷◌, ◌++◌, take, drop, Option, Some, None, refl, sym, ap, subst, ◌∙◌, append_assoc, arith}
use Rattle.std.specs.List.{AllByRecursion, remove}
use Rattle.std.specs.List.Sorted.{IsPermutation}
use Rattle.std.proofs.lemmas.Option.{get_or_from_slice_get}
use Rattle.std.proofs.lemmas.List.Sorted.{IsPermutation-sym, IsPermutation-trans, IsPermutation-middle, IsPermutation-remove, IsPermutation-to_front, All-permutation, list_any-IsPermutation}
use Rattle.std.proofs.lemmas.List.Elements.{recursion_from_All, All-from_recursion}
use Rattle.std.proofs.lemmas.Bool.Decides.{nat_tests}
use Rattle.std.proofs.lemmas.Map.Keys.{IsDistinct-IsPermutation}
use Rattle.ww_plain.specs.Numbers.{is_among, AreDifferent}
use Rattle.ww_plain.specs.Transaction.{IsFirstDouble, FirstDouble}
use Rattle.ww_plain.proofs.Doubles.{no_double_is_none}
use Rattle.ww_plain.proofs.Members.{is_among-head}
use Rattle.ww_lock.specs.Holding.{Holding, Refused}
use Rattle.ww_lock.specs.Waits.{Waits}
use Rattle.ww_users.specs.declared.fault.UserFault.{UserFault}
use Rattle.ww_users.specs.declared.fault.UserFault.TheVariants.{PassSpent, Already, Interrupted}
use Rattle.ww_users.specs.Ways.{IsRefusal}
use Rattle.ww_users.specs.Trips.{HoldsKept, IsContended, IsReordered}
use Rattle.ww_users.proofs.Entries.{take_next, parts_at}

different_moved : (ns ms : List ℕ) → IsPermutation ns ms → AreDifferent ns → AreDifferent ms
different_moved ns ms moved different = IsDistinct-IsPermutation eqb flips ns ms moved different
  where
    flips : (m n : ℕ) → eqb m n ≡ eqb n m
    flips m n = grind (arith, nat_tests)

-- where a list has two parts, and n stands in it, it stands in the second part, or in the first
Parted : (ms ks front rest : List ℕ) (n : ℕ) → Type 0
Parted ms ks front rest n = ((more : List ℕ) × (front ≡ ms ++ more) × (ks ≡ more ++ n ∷ rest))
    ⊎ ((less : List ℕ) × (ms ≡ front ++ n ∷ less))

parted : (ms ks front rest : List ℕ) (n : ℕ) → ms ++ ks ≡ front ++ n ∷ rest → Parted ms ks front rest n
unfolding Parted
parted [] ks front rest n e = inl (front, refl, e)
parted (a ∷ ms) ks [] rest n e = inr (ms, cc)
parted (a ∷ ms) ks (f ∷ front) rest n e = elim (parted ms ks front rest n cc) [
  | inl later ↦ inl (later.0, let same = later.1 in cc, later.2)
  | inr sooner ↦ inr (sooner.0, let same = sooner.1 in cc)
]

-- a duplicate behind different entries is not concerned by their order
pub double_before : (ms ks : List ℕ) (n : ℕ) (d : Option ℕ) → AreDifferent (ms ++ n ∷ [])
    → FirstDouble (n ∷ (ms ++ ks)) d → FirstDouble (ms ++ n ∷ ks) d
unfolding Parted
double_before ms ks n None different h =
    different_moved (n ∷ (ms ++ ks)) (ms ++ n ∷ ks)
    (IsPermutation-sym (ms ++ n ∷ ks) (n ∷ (ms ++ ks)) (IsPermutation-middle ms n ks)) h
double_before ms ks n (Some m) different h =
    let head_first = different_moved (ms ++ n ∷ []) (n ∷ ms) (IsPermutation-to_front ms n) different in
    elim (parted (n ∷ ms) ks h.front h.rest m h.parts) [
      | inl later ↦
          let front : h.front ≡ n ∷ (ms ++ later.0) = later.1 in
          let back = IsPermutation-sym (ms ++ n ∷ later.0) (n ∷ (ms ++ later.0)) (IsPermutation-middle ms n later.0) in
          record {
            front = ms ++ n ∷ later.0;
            rest = h.rest;
            parts = ap (λ ns. ms ++ n ∷ ns) later.2 ∙ sym (append_assoc ms (n ∷ later.0) (m ∷ h.rest));
            different = different_moved (n ∷ (ms ++ later.0)) (ms ++ n ∷ later.0) back (subst AreDifferent front h.different);
            earlier = sym (list_any-IsPermutation (λ k. eqb k m) (n ∷ (ms ++ later.0)) (ms ++ n ∷ later.0) back)
                ∙ ap (is_among m) (sym front) ∙ h.earlier;
          }
      | inr sooner ↦
          let first : IsFirstDouble (n ∷ ms) m =
          record {
            front = h.front;
            rest = sooner.0;
            parts = sooner.1;
            different = h.different;
            earlier = h.earlier;
          } in
          absurd (no_double_is_none (n ∷ ms) (Some m) first refl head_first)
    ]

-- the entry of this position is moved to the head, and all up to it differ: the trip goes on behind it
pub order_goes_on : (list order : List ℕ) (position : ℕ) (b : Refused) (a : Holding) → IsReordered list order
    → IsContended order b position → a.held ≡ b.contended ∷ []
    → HoldsKept (Some b.contended) (b.contended ∷ remove order position) a × IsReordered list (b.contended ∷ remove order position)
order_goes_on list order position b a h met alone =
    let n = b.contended in
    let is = sym (get_or_from_slice_get order position n 0 met.entry) in
    let front = take_next order position n met.there is in
    let whole = parts_at order position n met.there is in (
      record { held = alone; listed = is_among-head n (remove order position) },
      record {
        moved = IsPermutation-trans list order (n ∷ remove order position) h.moved (IsPermutation-remove order position n met.there
            (sym (get_or_from_slice_get order position n n met.entry)));
        double = λ d first. h.double d (subst (λ (ns : List ℕ). FirstDouble ns d) (sym whole)
            (double_before (take position order) (drop (suc position) order) n d (subst AreDifferent front met.different) first));
      },
    )

-- why the nodes of the reordered list weren't locked is why those of the list weren't
pub order_refused : (waits : Waits) (s p : Holding) (list order : List ℕ) (fault : UserFault) → IsReordered list order
    → IsRefusal waits s order p fault → IsRefusal waits s list p fault
order_refused waits s p list order PassSpent h why = why
order_refused waits s p list order (Already n) h why = ((h.double (Some n) why.0.0, why.0.1), why.1)
order_refused waits s p list order (Interrupted by) h why = why

pub order_among : (list order : List ℕ) (n : ℕ) → IsReordered list order → is_among n order ≡ is_among n list
order_among list order n h = sym (list_any-IsPermutation (λ m. eqb m n) list order h.moved)

pub order_below : (list order : List ℕ) (size : ℕ) → IsReordered list order → AllByRecursion (λ n. n < size) list
    → AllByRecursion (λ n. n < size) order
order_below list order size h below =
    recursion_from_All (λ n. n < size) order
    (All-permutation (λ n. n < size) list order h.moved (All-from_recursion (λ n. n < size) list below))
