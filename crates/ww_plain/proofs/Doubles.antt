-- The first duplicate of the nodes that some pairs name.
use Rattle.std.proofs.Common.{◌≡◌, ◌≢◌, ℕ, zero, suc, ◌+◌, ◌<◌, ◌≤◌, Bool, true, false, inl, inr, eqb, Option, Some, None, is_some, List, [], ◌∷◌, ◌++◌, length, take, drop, get_or, map, refl, ap, arith, sym, ◌∙◌}
use Rattle.std.specs.List.{IsDistinct}
use Rattle.std.specs.Bool.{then_some}
use Rattle.std.proofs.lemmas.List.{take_all, map_more}
use Rattle.ww_plain.specs.Numbers.{is_among, AreDifferent}
use Rattle.ww_plain.specs.Transaction.{IsFirstDouble, FirstDouble}
use Rattle.ww_plain.proofs.Members.{or_cases, same_from_eqb, eqb_same, is_among-head, is_among-tail, different_push, different_head, different_tail}

-- a list around the place i, as another list
map_around : {X Y : Type 0} (f : X → Y) (xs : List X) (i : ℕ) (d : X) → i < length xs
    → map f xs ≡ map f (take i xs) ++ f (get_or xs i d) ∷ map f (drop (suc i) xs)
map_around f [] i d lt = absurd (omega arith)
map_around f (x ∷ xs) zero d lt = refl
map_around f (x ∷ xs) (suc i) d lt = ap (λ ys. f x ∷ ys) (map_around f xs i d (omega arith))

-- the item at i is named by an earlier one, and no two earlier ones name the same
pub double_found : {X : Type 0} (f : X → ℕ) (xs : List X) (i : ℕ) (x : X) (n : ℕ) → i < length xs
    → x ≡ get_or xs i x → n ≡ f x → AreDifferent (map f (take i xs)) → is_among n (map f (take i xs)) ≡ true
    → IsFirstDouble (map f xs) n
double_found f xs i x n lt is names different earlier = record {
  front = map f (take i xs);
  rest = map f (drop (suc i) xs);
  parts = map_around f xs i x lt ∙ ap (λ m. map f (take i xs) ++ m ∷ map f (drop (suc i) xs)) (sym (names ∙ ap f is));
  different = different;
  earlier = earlier;
}

pub different_more : {X : Type 0} (f : X → ℕ) (xs : List X) (i : ℕ) (x : X) (n : ℕ) → i < length xs
    → x ≡ get_or xs i x → n ≡ f x → AreDifferent (map f (take i xs)) → is_among n (map f (take i xs)) ≡ false
    → AreDifferent (map f (take (i + 1) xs))
different_more f xs i x n lt is names different new =
    rw (map_more f xs i x lt, ← names ∙ ap f is) (different_push (map f (take i xs)) n different new)

pub different_all : {X : Type 0} (f : X → ℕ) (xs : List X) (i : ℕ) → length xs ≤ i
    → AreDifferent (map f (take i xs)) → AreDifferent (map f xs)
different_all f xs i le different = rw take_all at different

by_test : (m n : ℕ) (same : Bool) → eqb m n ≡ same → FirstDouble (m ∷ n ∷ []) (then_some same n)
unfolding IsDistinct
by_test m n true e = record { front = m ∷ []; rest = []; parts = refl; different = (tt, tt); earlier = rw e refl }
by_test m n false e = ((e, tt), (tt, tt))

-- two nodes that are one, or that differ
pub double_of_two : (m n : ℕ) → FirstDouble (m ∷ n ∷ []) (then_some (eqb m n) n)
double_of_two m n = by_test m n (eqb m n) refl

pub apart_from_different : (m n : ℕ) → AreDifferent (m ∷ n ∷ []) → m ≢ n
unfolding IsDistinct
apart_from_different m n different e = let no : eqb n n ≡ false = rw e at different.0.0 in let yes = eqb_same n in cc

among_later : (n : ℕ) (ms rest : List ℕ) → is_among n (ms ++ n ∷ rest) ≡ true
among_later n [] rest = is_among-head n rest
among_later n (m ∷ ms) rest = is_among-tail m n (ms ++ n ∷ rest) (among_later n ms rest)

not_different : (n : ℕ) (front rest : List ℕ) → is_among n front ≡ true → AreDifferent (front ++ n ∷ rest) → ⊥
not_different n [] rest e different = absurd cc
not_different n (m ∷ ms) rest e different =
    let new = different_head m (ms ++ n ∷ rest) different in
    elim (or_cases (eqb m n) (is_among n ms) e) [
      | inl same ↦ let here = rw (same_from_eqb m n same) at new in let there = among_later n ms rest in absurd cc
      | inr later ↦ not_different n ms rest later (different_tail m (ms ++ n ∷ rest) different)
    ]

-- where there is a first duplicate, the nodes do not all differ
pub no_double_is_none : (ns : List ℕ) (double : Option ℕ) → FirstDouble ns double → is_some double ≡ true → AreDifferent ns → ⊥
no_double_is_none ns None first e different = absurd cc
no_double_is_none ns (Some n) first e different = not_different n first.front first.rest first.earlier (rw first.parts at different)
