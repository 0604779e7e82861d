-- The cancels of scripts are balanced, as those of their passes are.
use Rattle.std.proofs.Common.{◌≡◌, ℕ, zero, suc, ◌+◌, ◌<◌, ◌≤◌, Bool, true, false, cond, List, [], ◌∷◌, length, get_or, refl, sym, ap, subst, ◌∙◌, arith, zero-add, add-zero}
use Rattle.std.specs.Prelude.{◌==◌, nat_lt, nat_le}
use Rattle.std.specs.List.{AllByRecursion}
use Rattle.std.proofs.lemmas.Bool.{ltb-true}
use Rattle.std.proofs.lemmas.Bool.Decides.{nat_tests}
use Rattle.std.proofs.lemmas.List.{get_or_past}
use Rattle.std.proofs.lemmas.List.Sums.{sum_by-cons}
use Rattle.ww_plain.proofs.GraphFacts.{all_item}
use Rattle.ww_model.specs.State.{one_if}
use Rattle.ww_invariant.specs.Rule as rule
use Rattle.ww_lock.specs.Holding.{Holding, Setting, by_of}
use Rattle.ww_lock.specs.Closed as lock
use Rattle.ww_script.specs.Acts.{Action}
use Rattle.ww_script.specs.Said.{Said}
use Rattle.ww_script.specs.Cancels.{cancelled_in, times, cancels_of, interrupters_of, AreBalanced}
use Rattle.ww_run.specs.Workers.{HasRun}
use Rattle.ww_run.proofs.Acts.{one_later}
use Rattle.ww_run.proofs.Scripts.{AreWorked, length_worked}

-- the passes say what the scripts were told, each at its number
worked_at : (number : ℕ) (scripts : List (List Action)) (replies : List (List Said)) (passes : List Holding) (i : ℕ) (d : Holding)
    → AreWorked number scripts replies passes → i < length scripts
    → ((get_or passes i d).caller ≡ number + i) × HasRun (get_or scripts i []) (get_or replies i []) (get_or passes i d)
worked_at number [] replies passes i d h lt = absurd (omega (arith, lt))
worked_at number (t ∷ scripts) [] passes i d h lt = absurd h
worked_at number (t ∷ scripts) (x ∷ replies) [] i d h lt = absurd h
worked_at number (t ∷ scripts) (x ∷ replies) (s ∷ passes) zero d h lt = (h.0 ∙ sym (add-zero number), h.1)
worked_at number (t ∷ scripts) (x ∷ replies) (s ∷ passes) (suc i) d h lt =
    let later = worked_at (number + 1) scripts replies passes i d h.2 (omega (arith, lt)) in
    (later.0 ∙ sym (one_later number i), later.1)

-- ---- counts

-- 1 where the test passes
abbrev one : Bool → ℕ
one b = cond b 1 0

same_one : (b : Bool) → one_if b ≡ one b
same_one true = refl
same_one false = refl

-- the rule and an outcome count alike
same_times : (n : ℕ) (ks : List ℕ) → rule.times n ks ≡ times n ks
same_times n [] = refl
same_times n (k ∷ ks) =
    let first = sum_by-cons (λ j. one (j == n)) k ks in
    omega (arith, first, same_times n ks, same_one (k == n))

never_first : (bound n k : ℕ) → k < bound → bound ≤ n → one (k == n) ≡ 0
never_first bound n k lt le = grind (arith, nat_tests)

-- no number from the bound on stands in the list
never : (bound n : ℕ) (ks : List ℕ) → AllByRecursion (λ k. k < bound) ks → bound ≤ n → times n ks ≡ 0
never bound n [] all le = refl
never bound n (k ∷ ks) all le =
    omega (arith, sum_by-cons (λ j. one (j == n)) k ks, never bound n ks all.1 le, never_first bound n k all.0 le)

-- ---- which seat has a cancel that is pending

-- the number, if it names one of so many scripts
abbrev named : ℕ → ℕ → ℕ
named count pending = cond (nat_le pending count) pending 0

named_there : (count pending script : ℕ) → script < count → one (named count pending == script + 1) ≡ one (pending == script + 1)
named_there count pending script lt = grind (arith, nat_tests)

named_past : (count pending script : ℕ) → count ≤ script → one (named count pending == script + 1) ≡ 0
named_past count pending script le = grind (arith, nat_tests)

-- ---- balance

module _ (scripts : List (List Action)) (replies : List (List Said)) (w : Setting) (passes : List Holding)
    (many : w.passes ≡ length scripts) (all : AreWorked 0 scripts replies passes) (closed : lock.AreBalanced w passes) where
  -- whose cancel of the victim is pending
  abbrev pending_of : ℕ → ℕ
  pending_of victim = named (length scripts) (closed.pending victim)

  -- what the pass of a script says of it
  ran : (d : Holding) (script : ℕ) → script < length scripts
      → ((get_or passes script d).caller ≡ script) × HasRun (get_or scripts script []) (get_or replies script []) (get_or passes script d)
  ran d script there = let at = worked_at 0 scripts replies passes script d all there in (at.0 ∙ zero-add script, at.1)

  there_too : (script : ℕ) → script < length scripts → script < length passes
  there_too script lt = omega (arith, lt, length_worked 0 scripts replies passes all)

  -- of two scripts, as their passes are balanced
  among_scripts : (d : Holding) (script victim : ℕ) → script < length scripts → victim < length scripts
      → cancels_of scripts replies victim script
      ≡ times script (interrupters_of scripts replies victim) + one (pending_of victim == script + 1)
  among_scripts d script victim there lt =
      let s = get_or passes script d in
      let v = get_or passes victim d in
      let mine = ran d script there in
      let theirs = ran d victim lt in
      let Row : Holding → Type 0 = λ a. AllByRecursion (λ b. lock.IsBalanced a b (closed.pending b.caller)) passes in
      let row : Row s = all_item Row passes script d (there_too script there) closed.each in
      let cell : lock.IsBalanced s v (closed.pending v.caller) =
      all_item (λ b. lock.IsBalanced s b (closed.pending b.caller)) passes victim d (there_too victim lt) row in
      let by_script : rule.times v.caller s.cancelled ≡ rule.times script (by_of v.interrupted)
      + one_if (closed.pending v.caller == script + 1) =
      subst (λ (k : ℕ). rule.times v.caller s.cancelled ≡ rule.times k (by_of v.interrupted)
      + one_if (closed.pending v.caller == k + 1)) mine.0 cell in
      let by_both : rule.times victim s.cancelled ≡ rule.times script (by_of v.interrupted) + one_if (closed.pending victim == script + 1) =
      subst (λ (k : ℕ). rule.times k s.cancelled ≡ rule.times script (by_of v.interrupted)
      + one_if (closed.pending k == script + 1)) theirs.0 by_script in
      omega (
        arith,
        by_both,
        same_times victim s.cancelled,
        same_times script (by_of v.interrupted),
        mine.1.cancelled victim,
        theirs.1.interrupted script,
        same_one (closed.pending victim == script + 1),
        named_there (length scripts) (closed.pending victim) script there,
      )

  -- nobody but a script cancels
  from_outside : (d : Holding) (script victim : ℕ) → length scripts ≤ script → victim < length scripts
      → cancels_of scripts replies victim script
      ≡ times script (interrupters_of scripts replies victim) + one (pending_of victim == script + 1)
  from_outside d script victim past lt =
      let v = get_or passes victim d in
      let theirs = ran d victim lt in
      let by : AllByRecursion (λ c. c < w.passes) (by_of v.interrupted) =
      all_item (λ b. AllByRecursion (λ c. c < w.passes) (by_of b.interrupted)) passes victim d (there_too victim lt) closed.callers in
      let none : cancels_of scripts replies victim script ≡ 0 =
      ap (λ deeds. times victim (cancelled_in deeds (get_or replies script []))) (get_or_past scripts script [] past) in
      omega (
        arith,
        none,
        never w.passes script (by_of v.interrupted) by (omega (arith, many, past)),
        theirs.1.interrupted script,
        named_past (length scripts) (closed.pending victim) script past,
      )

  balanced_if : (d : Holding) (b : Bool) (script victim : ℕ) → nat_lt script (length scripts) ≡ b → victim < length scripts
      → cancels_of scripts replies victim script
      ≡ times script (interrupters_of scripts replies victim) + one (pending_of victim == script + 1)
  balanced_if d true script victim is lt = among_scripts d script victim (ltb-true _ _ is) lt
  balanced_if d false script victim is lt = from_outside d script victim (grind (arith, nat_tests)) lt

a_member : {A : Type 0} (xs : List A) → 0 < length xs → A
a_member [] lt = absurd (omega (arith, lt))
a_member (x ∷ xs) lt = x

pub are_balanced : (scripts : List (List Action)) (replies : List (List Said)) (w : Setting) (passes : List Holding)
    → w.passes ≡ length scripts → AreWorked 0 scripts replies passes → lock.AreBalanced w passes
    → (pending : ℕ → ℕ) × AreBalanced scripts replies pending
are_balanced scripts replies w passes many all closed = (
  pending_of scripts replies w passes many all closed,
  λ script victim lt.
      let some = length_worked 0 scripts replies passes all in
      let d = a_member passes (omega (arith, lt, some)) in
      balanced_if scripts replies w passes many all closed d (nat_lt script (length scripts)) script victim refl lt,
)
