-- Of something that may hold at each time: when it held last.
use Rattle.std.proofs.Common.{◌≡◌, ◌≢◌, ◌⊎◌, ⊎_elim, inl, inr, ℕ, zero, suc, ◌+◌, ◌-◌, ◌<◌, ◌≤◌, Option, Some, None, ap, subst, arith}
use Rattle.std.proofs.lemmas.Bool.{cases_lt}
use Rattle.ww_protocols.proofs.Changes.{same_or_not}

-- the last time before j
pub record LastTime (P : ℕ → Type 0) (i j : ℕ) : Type 0 where
  pub at : ℕ
  pub from : i ≤ at
  pub before : at < j
  pub holds : P at
  pub since : (k : ℕ) → at < k → k ≤ j → P k → ⊥

last_within : (P : ℕ → Type 0) → ((k : ℕ) → P k ⊎ (P k → ⊥)) → (i gap : ℕ) → P i → (P (i + gap) → ⊥) → LastTime P i (i + gap)
last_within P dec i zero h gone = absurd (gone (subst P (omega arith) h))
last_within P dec i (suc gap) h gone = ⊎_elim
    (λ still. record {
      at = i + gap;
      from = omega arith;
      before = omega arith;
      holds = still;
      since = λ k low high. let is : i + suc gap ≡ k = omega arith in subst (λ n. P n → ⊥) is gone;
    })
    (λ isnt. let a = last_within P dec i gap h isnt in let from = a.from in let before = a.before in record {
      at = a.at;
      from = from;
      before = omega arith;
      holds = a.holds;
      since = λ k low high. ⊎_elim (λ less. a.since k low (omega arith))
          (λ top. let is : i + suc gap ≡ k = omega arith in subst (λ n. P n → ⊥) is gone) (cases_lt k (i + suc gap));
    })
    (dec (i + gap))

pub last_time : (P : ℕ → Type 0) → ((k : ℕ) → P k ⊎ (P k → ⊥)) → (i j : ℕ) → i ≤ j → P i → (P j → ⊥) → LastTime P i j
last_time P dec i j later h gone = let gap : i + (j - i) ≡ j = omega arith in
    subst (λ x. LastTime P i x) gap (last_within P dec i (j - i) h (λ p. gone (subst P gap p)))

-- the last time at which it didn't hold yet
pub record Arrival (P : ℕ → Type 0) (i j : ℕ) : Type 0 where
  pub at : ℕ
  pub from : i ≤ at
  pub before : at < j
  pub not_yet : P at → ⊥
  pub since : (k : ℕ) → at < k → k ≤ j → P k

pub arrives : (P : ℕ → Type 0) → ((k : ℕ) → P k ⊎ (P k → ⊥)) → (i j : ℕ) → i ≤ j → (P i → ⊥) → P j → Arrival P i j
arrives P dec i j later lacks h = let a = last_time (λ k. P k → ⊥) (λ k. ⊎_elim (λ p. inr (λ not. not p)) inl (dec k)) i j later lacks
    (λ not. not h) in record {
      at = a.at;
      from = a.from;
      before = a.before;
      not_yet = a.holds;
      since = λ k low high. ⊎_elim (λ p. p) (λ not. absurd (a.since k low high not)) (dec k);
    }

-- somebody has it, or not
pub has_or_not : (o : Option ℕ) (t : ℕ) → (o ≡ Some t) ⊎ (o ≢ Some t)
has_or_not None t = inr (λ is. let z : ⊥ = cc in z)
has_or_not (Some u) t = ⊎_elim (λ is. inl (ap Some is)) (λ isnt. inr (λ is. isnt (let z : u ≡ t = cc in z))) (same_or_not u t)
