-- Cancels that are balanced are answered once each.
use Rattle.std.proofs.Common.{◌≡◌, ℕ, zero, suc, ◌+◌, ◌<◌, ◌≤◌, List, [], ◌∷◌, length, get_or, cond, refl, ap, ◌∙◌, arith}
use Rattle.std.specs.Prelude.{◌==◌}
use Rattle.std.specs.List.{AllByRecursion}
use Rattle.std.proofs.lemmas.Bool.Decides.{nat_tests}
use Rattle.std.proofs.lemmas.List.{get_or_past}
use Rattle.std.proofs.lemmas.List.Sums.{sum_by-cons}
use Rattle.ww_script_parts.specs.Acts.{Action}
use Rattle.ww_outcome.specs.Said.{Said}
use Rattle.ww_outcome.specs.Cancels.{cancelled_in, times, sum_below, cancels_of, interrupters_of, AreBalanced, AreAnsweredOnce, CancelsAreAnsweredOnce}

-- ---- sums

same_sum : (n : ℕ) (f g : ℕ → ℕ) → ((k : ℕ) → f k ≡ g k) → sum_below n f ≡ sum_below n g
same_sum zero f g same = refl
same_sum (suc n) f g same = omega (arith, same_sum n f g same, same n)

sum_of_sums : (n : ℕ) (f g : ℕ → ℕ) → sum_below n (λ k. f k + g k) ≡ sum_below n f + sum_below n g
sum_of_sums zero f g = refl
sum_of_sums (suc n) f g = omega (arith, sum_of_sums n f g)

no_sum : (n : ℕ) → sum_below n (λ k. 0) ≡ 0
no_sum zero = refl
no_sum (suc n) = omega (arith, no_sum n)

-- 1 at one number, and 0 at the others
abbrev at : ℕ → ℕ → ℕ
at x k = cond (x == k) 1 0

nothing_below : (x n : ℕ) → n ≤ x → sum_below n (at x) ≡ 0
nothing_below x zero le = refl
nothing_below x (suc n) le = let below = nothing_below x n (omega (arith, le)) in grind (arith, nat_tests)

one_below : (x n : ℕ) → x < n → sum_below n (at x) ≡ 1
one_below x zero lt = absurd (omega (arith, lt))
one_below x (suc n) lt = grind (arith, nat_tests, nothing_below x n, one_below x n)

-- 1 at the number before this one, and 0 at the others
abbrev before : ℕ → ℕ → ℕ
before p k = cond (p == k + 1) 1 0

nothing_before : (p n : ℕ) → n < p → sum_below n (before p) ≡ 0
nothing_before p zero lt = refl
nothing_before p (suc n) lt = let below = nothing_before p n (omega (arith, lt)) in grind (arith, nat_tests)

one_before : (p n : ℕ) → sum_below n (before p) ≤ 1
one_before p zero = omega arith
one_before p (suc n) = grind (arith, nat_tests, nothing_before p n, one_before p n)

-- ---- numbers in a list

times_more : (k x : ℕ) (xs : List ℕ) → times k (x ∷ xs) ≡ at x k + times k xs
times_more k x xs = sum_by-cons (λ j. at j k) x xs

at_itself : (x : ℕ) → at x x ≡ 1
at_itself x = grind (arith, nat_tests)

-- no number in the list is one that stands there no times
none_stands : (bound : ℕ) (xs : List ℕ) → ((k : ℕ) → bound ≤ k → times k xs ≡ 0) → AllByRecursion (λ x. x < bound) xs
none_stands bound [] none = tt
none_stands bound (x ∷ xs) none = (
  grind (arith, none x, times_more x x xs, at_itself x),
  none_stands bound xs (λ k le. omega (arith, none k le, times_more k x xs)),
)

-- each is counted at its number
all_counted : (n : ℕ) (xs : List ℕ) → AllByRecursion (λ x. x < n) xs → sum_below n (λ k. times k xs) ≡ length xs
all_counted n [] all = no_sum n
all_counted n (x ∷ xs) all =
    let first = one_below x n all.0 in
    let rest = all_counted n xs all.1 in
    let both = sum_of_sums n (at x) (λ k. times k xs) in
    let split = same_sum n (λ k. times k (x ∷ xs)) (λ k. at x k + times k xs) (λ k. times_more k x xs) in
    omega (arith, first, rest, both, split)

-- ---- cancels

module _ (scripts : List (List Action)) (replies : List (List Said)) (pending : ℕ → ℕ) (balanced : AreBalanced scripts replies pending) where
  -- nobody but a script sets a cancel
  unset : (victim script : ℕ) → length scripts ≤ script → cancels_of scripts replies victim script ≡ 0
  unset victim script le =
      ap (λ deeds. times victim (cancelled_in deeds (get_or replies script []))) (get_or_past scripts script [] le)

  interrupters_are_scripts : (victim : ℕ) → victim < length scripts
      → AllByRecursion (λ k. k < length scripts) (interrupters_of scripts replies victim)
  interrupters_are_scripts victim lt = none_stands (length scripts) (interrupters_of scripts replies victim)
      (λ k le. omega (arith, balanced k victim lt, unset victim k le))

  -- what was set, in sum: as many as were answered, and those that are pending
  all_set : (victim : ℕ) → victim < length scripts → sum_below (length scripts) (cancels_of scripts replies victim)
      ≡ length (interrupters_of scripts replies victim) + sum_below (length scripts) (before (pending victim))
  all_set victim lt =
      let n = length scripts in
      let interrupters = interrupters_of scripts replies victim in
      same_sum n (cancels_of scripts replies victim) (λ k. times k interrupters + before (pending victim) k) (λ k. balanced k victim lt)
      ∙ sum_of_sums n (λ k. times k interrupters) (before (pending victim))
      ∙ ap (λ k. k + sum_below n (before (pending victim))) (all_counted n interrupters (interrupters_are_scripts victim lt))

  answered_once : AreAnsweredOnce scripts replies
  answered_once = record {
    each = λ script victim lt. omega (arith, balanced script victim lt);
    none_without = λ victim lt. omega (arith, all_set victim lt);
    one_pending = λ victim lt. omega (arith, all_set victim lt, one_before (pending victim) (length scripts));
  }

pub each_answered_once : CancelsAreAnsweredOnce
each_answered_once scripts replies pending balanced = answered_once scripts replies pending balanced
