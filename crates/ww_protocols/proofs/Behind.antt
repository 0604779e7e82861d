-- What memory may show behind a lock that isn't the writer's, or no lock.
use Rattle.std.proofs.Common.{◌≡◌, ◌≢◌, ◌⊎◌, ⊎_elim, inl, inr, ℕ, zero, suc, ◌<◌, refl, sym, ap, ◌∙◌, arith}
use Rattle.ww_protocols.specs.Memory.{Access, writes, reads, none, WritesAt}
use Rattle.ww_protocols.specs.Data.{LockAct, takes, releases, accesses, access_of, IsDoneBy, HappensBefore, in_order, handed, through}
use Rattle.ww_protocols.specs.StaleReads.{one_then_another, MayReadTheOld, OnlyItsLockHandsOver}

-- who does it
abbrev pub side : ℕ → ℕ
side zero = 0
side (suc zero) = 0
side (suc (suc i)) = 1

module _ (this that : LockAct) (this_is : access_of this ≡ none) (that_is : access_of that ≡ none)
    (by_one : (t : ℕ) → IsDoneBy t this → 0 ≡ t) (by_another : (t : ℕ) → IsDoneBy t that → 1 ≡ t) where
  abbrev act : ℕ → LockAct
  act = one_then_another this that

  done_on : (i t : ℕ) → IsDoneBy t (act i) → side i ≡ t
  done_on zero t by = by
  done_on (suc zero) t by = by_one t by
  done_on (suc (suc zero)) t by = by_another t by
  done_on (suc (suc (suc zero))) t by = by
  done_on (suc (suc (suc (suc i)))) t by = absurd by

  of_locks : (i : ℕ) → ((x : Access) → act i ≢ accesses x) → (i ≡ 1) ⊎ (i ≡ 2)
  of_locks zero isnt = absurd (isnt (writes 0 0 7) refl)
  of_locks (suc zero) isnt = inl refl
  of_locks (suc (suc zero)) isnt = inr refl
  of_locks (suc (suc (suc zero))) isnt = absurd (isnt (reads 1 0 0) refl)
  of_locks (suc (suc (suc (suc i)))) isnt = absurd (isnt none refl)

  at_both : (i j t u n m : ℕ) → i < j → act i ≡ releases t n → act j ≡ takes u m → (i ≡ 1) × (j ≡ 2)
  at_both i j t u n m less gives comes = ⊎_elim
      (λ first. ⊎_elim (λ no. absurd (omega arith)) (λ second. (first, second)) (of_locks j (λ x is. let z = sym comes ∙ is in absurd (cc))))
      (λ second. ⊎_elim (λ no. absurd (omega arith)) (λ no. absurd (omega arith)) (of_locks j (λ x is. let z = sym comes ∙ is in absurd (cc))))
      (of_locks i (λ x is. let z = sym gives ∙ is in absurd (cc)))

  writes_first : (x k : ℕ) → WritesAt x (access_of (act k)) → k ≡ 0
  writes_first x zero w = refl
  writes_first x (suc zero) w = let is = sym this_is ∙ w.2 in absurd (cc)
  writes_first x (suc (suc zero)) w = let is = sym that_is ∙ w.2 in absurd (cc)
  writes_first x (suc (suc (suc zero))) w = let is = w.2 in absurd (cc)
  writes_first x (suc (suc (suc (suc i)))) w = let is = w.2 in absurd (cc)

  module _ (unordered : (t u n : ℕ) → this ≡ releases t n → that ≢ takes u n) where
    one_side : (i j : ℕ) → HappensBefore act i j → side i ≡ side j
    one_side _ _ (in_order i j t less a b) = done_on i t a ∙ sym (done_on j t b)
    one_side _ _ (handed i j t u n less a b) = let at = at_both i j t u n n less a b in
        absurd (unordered t u n (ap act (sym at.0) ∙ a) (ap act (sym at.1) ∙ b))
    one_side _ _ (through i j k a b) = one_side i j a ∙ one_side j k b

    none_before : (x k : ℕ) → WritesAt x (access_of (act k)) → HappensBefore act k 3 → ⊥
    none_before x k w b = let first = ap side (writes_first x k w) in let it = one_side k 3 b in
        let z : ◌≡◌ {A = ℕ} 0 1 = sym first ∙ it in omega arith

    old : MayReadTheOld this that
    old zero t x value is = absurd (cc)
    old (suc zero) t x value is = let z = sym this_is ∙ is in absurd (cc)
    old (suc (suc zero)) t x value is = let z = sym that_is ∙ is in absurd (cc)
    old (suc (suc (suc zero))) t x value is = inr ((let first : value ≡ 0 = cc in first), none_before x)
    old (suc (suc (suc (suc i)))) t x value is = absurd (cc)

-- ---- the same lock

module _ (n : ℕ) where
  abbrev under_it : ℕ → LockAct
  under_it = one_then_another (releases 0 n) (takes 1 n)

  write_comes_first : HappensBefore under_it 0 3
  write_comes_first = through 0 2 3 (through 0 1 2 (in_order 0 1 0 (omega arith) refl refl) (handed 1 2 0 1 n (omega arith) refl refl))
      (in_order 2 3 1 (omega arith) refl refl)

  writes_no_zero : (i u : ℕ) → access_of (under_it i) ≡ writes u 0 0 → ⊥
  writes_no_zero zero u is = let z : ◌≡◌ {A = ℕ} 7 0 = cc in omega arith
  writes_no_zero (suc zero) u is = cc
  writes_no_zero (suc (suc zero)) u is = cc
  writes_no_zero (suc (suc (suc zero))) u is = cc
  writes_no_zero (suc (suc (suc (suc i)))) u is = cc

  not_old : ¬ MayReadTheOld (releases 0 n) (takes 1 n)
  not_old memory = ⊎_elim (λ w. writes_no_zero w.0 w.1 w.2) (λ first. first.1 0 (0, 7, refl) write_comes_first) (memory 3 1 0 0 refl)

no_release : (t u n m : ℕ) → takes u m ≢ releases t n
no_release t u n m is = cc

no_take : (t u n m : ℕ) → releases u m ≢ takes t n
no_take t u n m is = cc

pub only_its_lock_hands_over : OnlyItsLockHandsOver
only_its_lock_hands_over = record {
  same_lock = not_old;
  another_lock = λ n m differ. old (releases 0 n) (takes 1 m) refl refl (λ _ is. is) (λ _ is. is)
      (λ t u k gives comes. differ (let here : n ≡ k = cc in let there : m ≡ k = cc in here ∙ sym there));
  both_take = λ n m. old (takes 0 n) (takes 1 m) refl refl (λ _ is. is) (λ _ is. is) (λ t u k gives. absurd (no_release t 0 k n gives));
  both_release = λ n m. old (releases 0 n) (releases 1 m) refl refl (λ _ is. is) (λ _ is. is) (λ t u k _ comes. no_take u 1 k m comes);
  turned_round = λ n m. old (takes 0 n) (releases 1 m) refl refl (λ _ is. is) (λ _ is. is) (λ t u k _ comes. no_take u 1 k m comes);
}
