-- What becomes of the cancels that scripts set.
use Rattle.std.specs.Prelude.{ℕ, zero, suc, ◌≡◌, ◌+◌, ◌<◌, ◌≤◌, ◌==◌, true, List, [], ◌∷◌, length, slice_index_or, count_by, if◌then◌else◌}
use Rattle.ww_script_parts.specs.Acts.{Action, cancels}
use Rattle.ww_outcome.specs.Said.{Said, interrupted, cancelling}

-- the scripts that these acts cancelled, each as often as a cancel of it was set
abbrev pub cancelled_in : List Action → List Said → List ℕ
cancelled_in (cancels script ∷ deeds) (cancelling true ∷ saids) = script ∷ cancelled_in deeds saids
cancelled_in (deed ∷ deeds) (said ∷ saids) = cancelled_in deeds saids
cancelled_in _ _ = []

-- the scripts that called a transaction off, each as often as these answers name it
abbrev pub interrupters_in : List Said → List ℕ
interrupters_in (interrupted script ∷ saids) = script ∷ interrupters_in saids
interrupters_in (_ ∷ saids) = interrupters_in saids
interrupters_in [] = []

-- how often the number stands in the list
abbrev pub times : ℕ → List ℕ → ℕ
times n ns = count_by (λ k. k == n) ns

-- the sum over all numbers below the bound
abbrev pub sum_below : ℕ → (ℕ → ℕ) → ℕ
sum_below zero f = 0
sum_below (suc n) f = sum_below n f + f n

module _ (scripts : List (List Action)) (replies : List (List Said)) where
  -- how often the script set a cancel of the victim
  abbrev pub cancels_of : ℕ → ℕ → ℕ
  cancels_of victim script = times victim (cancelled_in (slice_index_or scripts script []) (slice_index_or replies script []))

  -- the scripts that interrupted the victim
  abbrev pub interrupters_of : ℕ → List ℕ
  interrupters_of victim = interrupters_in (slice_index_or replies victim [])

  -- Each cancel that a script set was answered by one interruption of its victim, and no interruption is without one; but
  -- for the cancel that is pending in the end, of which a victim has one at most: `pending` is 0, or the number of the
  -- script that set it plus 1.
  abbrev pub AreBalanced : (ℕ → ℕ) → Type 0
  AreBalanced pending = (script victim : ℕ) → victim < length scripts →
      cancels_of victim script
      ≡ times script (interrupters_of victim) + (if pending victim == script + 1 then 1 else 0)

  -- A script interrupts another at most as often as it cancelled it. Of all cancels of a script each was answered by one
  -- interruption, except at most one.
  pub record AreAnsweredOnce : Type 0 where
    pub each : (script victim : ℕ) → victim < length scripts
        → times script (interrupters_of victim) ≤ cancels_of victim script
    pub none_without : (victim : ℕ) → victim < length scripts
        → length (interrupters_of victim) ≤ sum_below (length scripts) (cancels_of victim)
    pub one_pending : (victim : ℕ) → victim < length scripts
        → sum_below (length scripts) (cancels_of victim) ≤ length (interrupters_of victim) + 1

-- whose cancels are balanced, each is answered once
abbrev pub CancelsAreAnsweredOnce : Type 0
CancelsAreAnsweredOnce = (scripts : List (List Action)) (replies : List (List Said)) (pending : ℕ → ℕ)
    → AreBalanced scripts replies pending → AreAnsweredOnce scripts replies
