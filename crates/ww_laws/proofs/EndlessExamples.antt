-- In each kind an endless run in which a seat sleeps for ever, and one in which a seat sleeps that needn't.
use Rattle.std.proofs.Common.{◌≡◌, ◌≢◌, ⊎_elim, ℕ, zero, suc, ◌≤◌, Bool, true, false, refl, sym, ap, ◌∙◌, subst, arith, true≢false}
use native.Mathlib.Decide.{ℕ_discrete}
use Rattle.ww_queue.specs.declared.kind.Kind.{Kind}
use Rattle.ww_model.specs.State.{put}
use Rattle.ww_model.proofs.Puts.{put_was}
use Rattle.ww_laws.specs.Scene.{asleep, Scene, Step, finds_no_sign, wakes, rises, May, next}
use Rattle.ww_laws.specs.Sleepers.{WakesArrive, IsEndlessInKind, SleepsForEver, SleepsInVain, EndlessRunsHaveSleepers}
use Rattle.ww_laws.proofs.Woken.{debt_was}
use Rattle.ww_laws.proofs.Keeping.{not_acting}
use Rattle.ww_laws.proofs.Examples.{sleeping, given, from_sleeping, from_given, due}

-- a scene after the first seat looked so often at its sign, and found none
abbrev found : (ℕ → Bool) → ℕ → ℕ → Bool
found before zero = before
found before (suc i) = put (found before i) 0 true

abbrev looking : Scene → ℕ → Scene
looking w i = record w { found_no_sign = found w.found_no_sign i }

-- ---- a seat that sleeps for ever

sleeps_on : (kind : Kind) → IsEndlessInKind kind SleepsForEver
unfolding put ℕ_discrete
sleeps_on kind = record {
  scene = looking (sleeping kind);
  step = λ _. finds_no_sign 0;
  seat = 1;
  of_kind = refl;
  run = record {
    begins = (from_sleeping kind).reached;
    may = λ i. (refl, refl);
    goes_on = λ i. refl;
  };
  arrive = record {
    made = λ i s v owed. absurd (true≢false (sym owed));
    heard = λ i s token. absurd (true≢false (sym token));
  };
  holds = record { sleeps = λ i. refl; heeds = λ i. refl };
}

-- ---- a seat that sleeps without having to, until it is woken

abbrev woken : Kind → Scene
woken kind = next (given kind) (wakes 0 1)

abbrev risen : Kind → Scene
risen kind = next (woken kind) (rises 1)

abbrev waking : Kind → ℕ → Scene
waking kind zero = given kind
waking kind (suc zero) = woken kind
waking kind (suc (suc i)) = looking (risen kind) i

abbrev waking_step : ℕ → Step
waking_step zero = wakes 0 1
waking_step (suc zero) = rises 1
waking_step (suc (suc i)) = finds_no_sign 0

only_debt : (kind : Kind) (s v : ℕ) → (given kind).owes s v ≡ true → (s ≡ 0) × (v ≡ 1)
unfolding put ℕ_discrete
only_debt kind s v owed = ⊎_elim (λ new. (new.0, new.1)) (λ old. absurd (true≢false (sym old)))
    (debt_was (λ _ _. false) 0 1 true s v owed)

paid : (kind : Kind) (s v : ℕ) → (woken kind).owes s v ≢ true
unfolding put ℕ_discrete
paid kind s v owed = ⊎_elim (λ new. true≢false (sym new.2))
    (λ old. let was = only_debt kind s v old in
    true≢false (sym (subst (λ x. (woken kind).owes x 1 ≡ true) was.0 (subst (λ x. (woken kind).owes s x ≡ true) was.1 owed))))
    (debt_was (given kind).owes 0 1 false s v owed)

only_token : (kind : Kind) (s : ℕ) → (woken kind).token s ≡ true → s ≡ 1
unfolding put ℕ_discrete
only_token kind s token = ⊎_elim (λ new. new.0) (λ old. absurd (true≢false (sym old.1)))
    (put_was (λ _. false) 1 true s (λ b. b ≡ true) token)

taken : (kind : Kind) (s : ℕ) → (risen kind).token s ≢ true
unfolding put ℕ_discrete
taken kind s token = ⊎_elim (λ new. true≢false (sym new.1)) (λ old. old.0 (only_token kind s old.1))
    (put_was (woken kind).token 1 false s (λ b. b ≡ true) token)

wakes_arrive : (kind : Kind) → WakesArrive (waking kind) waking_step
unfolding put ℕ_discrete
wakes_arrive kind = record { made = made; heard = heard }
  where
    made : (i s v : ℕ) → (waking kind i).owes s v ≡ true → (j : ℕ) × (i ≤ j) × (waking_step j ≡ wakes s v)
    made zero s v owed = let who = only_debt kind s v owed in
        (0, omega arith, ap (λ x. wakes x 1) (sym who.0) ∙ ap (wakes s) (sym who.1))
    made (suc zero) s v owed = absurd (paid kind s v owed)
    made (suc (suc i)) s v owed = absurd (paid kind s v owed)

    heard : (i s : ℕ) → (waking kind i).token s ≡ true → (waking kind i).phase s ≡ asleep →
        (j : ℕ) × (i ≤ j) × (waking_step j ≡ rises s)
    heard zero s token sleeps = absurd (true≢false (sym token))
    heard (suc zero) s token sleeps = (1, omega arith, ap rises (sym (only_token kind s token)))
    heard (suc (suc i)) s token sleeps = absurd (taken kind s token)

is_woken : (kind : Kind) → IsEndlessInKind kind SleepsInVain
unfolding put ℕ_discrete
is_woken kind = record {
  scene = waking kind;
  step = waking_step;
  seat = 1;
  of_kind = refl;
  run = record { begins = (from_given kind).reached; may = may; goes_on = goes_on };
  arrive = wakes_arrive kind;
  holds = record { sleeps = refl; needs_not = λ waits. waits.not_due 0 (due kind) };
}
  where
    may : (i : ℕ) → May (waking kind i) (waking_step i)
    may zero = λ sleeps. not_acting ((given kind).phase 0) sleeps refl
    may (suc zero) = λ acts. not_acting ((woken kind).phase 1) refl acts
    may (suc (suc i)) = (refl, refl)

    goes_on : (i : ℕ) → waking kind (suc i) ≡ next (waking kind i) (waking_step i)
    goes_on zero = refl
    goes_on (suc zero) = refl
    goes_on (suc (suc i)) = refl

pub endless_runs_have_sleepers : EndlessRunsHaveSleepers
endless_runs_have_sleepers kind = (sleeps_on kind, is_woken kind)
