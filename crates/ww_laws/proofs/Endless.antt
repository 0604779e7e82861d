-- Endless runs: whoever was woken rises.
use Rattle.std.proofs.Common.{◌≡◌, ◌≢◌, ◌⊎◌, inl, inr, ⊎_elim, ℕ, zero, suc, ◌+◌, ◌-◌, ◌≤◌, true, sym, ap, ◌∙◌, subst, arith, ◌<◌}
use Rattle.ww_queue.specs.Queue.{Stands}
use Rattle.ww_model.proofs.Puts.{put_here}
use Rattle.ww_model.proofs.Stays.{stands_stays}
use Rattle.ww_laws.specs.Scene.{acting, asleep, Scene, Step, performs, wakes, rises, May, next, IsReached, goes_on}
use Rattle.ww_laws.specs.Sleepers.{IsAlerted, HasToWait, IsEndlessRun, WakesArrive, NobodySleepsInVain, SleepForEverIsAWait}
use Rattle.ww_laws.proofs.Keeping.{not_acting, no_wake_is_lost}
use Rattle.ww_laws.proofs.Walks.{sleeps_or_not}

-- ---- along the numbers

-- a time from i on, and before j, at which it holds
pub record FoundAt (P : ℕ → Type 0) (i j : ℕ) : Type 0 where
  pub at : ℕ
  pub from : i ≤ at
  pub before : at < j
  pub holds : P at

unless_within : (P Q : ℕ → Type 0) (i gap : ℕ) → Q i →
    ((k : ℕ) → i ≤ k → k < i + gap → Q k → P k ⊎ Q (suc k)) → FoundAt P i (i + gap) ⊎ Q (i + gap)
unless_within P Q i zero h on = inr (subst Q (omega arith) h)
unless_within P Q i (suc gap) h on = ⊎_elim
    (λ f. let from = f.from in let before = f.before in
    inl (record { at = f.at; from = from; before = omega arith; holds = f.holds }))
    (λ q. ⊎_elim (λ p. inl (record { at = i + gap; from = omega arith; before = omega arith; holds = p }))
    (λ still. inr (subst Q (omega arith) still)) (on (i + gap) (omega arith) (omega arith) q))
    (unless_within P Q i gap h (λ k from below. on k from (omega arith)))

-- the one holds at some time before j, or the other, which holds at i, still does at j
pub unless : (P Q : ℕ → Type 0) (i j : ℕ) → i ≤ j → Q i →
    ((k : ℕ) → i ≤ k → k < j → Q k → P k ⊎ Q (suc k)) → FoundAt P i j ⊎ Q j
unless P Q i j later h on = let gap : i + (j - i) ≡ j = omega arith in
    subst (λ x. FoundAt P i x ⊎ Q x) gap (unless_within P Q i (j - i) h (λ k from below. on k from (omega arith)))

-- what holds at i, and after each step from there if before it, holds at j
pub holds_at : (P : ℕ → Type 0) (i j : ℕ) → i ≤ j → P i → ((k : ℕ) → i ≤ k → k < j → P k → P (suc k)) → P j
holds_at P i j later h on = ⊎_elim (λ f. absurd f.holds) (λ still. still)
    (unless (λ _. ⊥) P i j later h (λ k from below before. inr (on k from below before)))

-- ---- of one step, and along a run

-- a sleeper stays in its list
list_stays : (w : Scene) (x : Step) (s n : ℕ) → w.phase s ≡ asleep → May w x →
    Stands (w.core.queue n) s → Stands ((next w x).core.queue n) s
list_stays w (performs e) s n sleeps may h =
    (stands_stays w.core e s (λ is. not_acting (w.phase s) sleeps (ap w.phase (sym is) ∙ may.acts)) n).0 h
list_stays w _ s n sleeps may h = h

module _ (scene : ℕ → Scene) (step : ℕ → Step) (run : IsEndlessRun scene step) where
  pub reached_at : (i : ℕ) → IsReached (scene i)
  reached_at zero = run.begins
  reached_at (suc i) = subst IsReached (sym (run.goes_on i)) (goes_on (scene i) (step i) (reached_at i) (run.may i))

  -- the scene after a step that is known
  scene_after : (i : ℕ) (x : Step) → step i ≡ x → scene (suc i) ≡ next (scene i) x
  scene_after i x is = run.goes_on i ∙ ap (next (scene i)) is

  risen : (i s : ℕ) → step i ≡ rises s → (scene (suc i)).phase s ≢ asleep
  risen i s is sleeps = not_acting ((scene (suc i)).phase s) sleeps
      (ap (λ (x : Scene). x.phase s) (scene_after i (rises s) is) ∙ put_here (scene i).phase s acting)

  woken : (i s v : ℕ) → step i ≡ wakes s v → (scene (suc i)).token v ≡ true
  woken i s v is = ap (λ (x : Scene). x.token v) (scene_after i (wakes s v) is) ∙ put_here (scene i).token v true

  stands_at : (i s n j : ℕ) → ((j : ℕ) → i ≤ j → (scene j).phase s ≡ asleep) → i ≤ j →
      Stands ((scene i).core.queue n) s → Stands ((scene j).core.queue n) s
  stands_at i s n j always later h = holds_at (λ k. Stands ((scene k).core.queue n) s) i j later h
      (λ k from below here. subst (λ (w : Scene). Stands (w.core.queue n) s) (sym (run.goes_on k))
      (list_stays (scene k) (step k) s n (always k from) (run.may k) here))

module _ (scene : ℕ → Scene) (step : ℕ → Step) (run : IsEndlessRun scene step) (arrive : WakesArrive scene step) where
  -- it doesn't sleep at some time from then on
  abbrev IsAwakeLater : ℕ → ℕ → Type 0
  IsAwakeLater i s = (j : ℕ) × (i ≤ j) × ((scene j).phase s ≢ asleep)

  with_token : (i s : ℕ) → (scene i).token s ≡ true → IsAwakeLater i s
  with_token i s token = ⊎_elim
      (λ sleeps. let up = arrive.heard i s token sleeps in let later = up.1 in (suc up.0, omega arith, risen scene step run up.0 s up.2))
      (λ isnt. (i, omega arith, isnt)) (sleeps_or_not ((scene i).phase s))

  alerted_rises : (i s : ℕ) → IsAlerted (scene i) s → IsAwakeLater i s
  alerted_rises i s (inl token) = with_token i s token
  alerted_rises i s (inr owed) = let paid = arrive.made i owed.0 s owed.1 in let later = paid.1 in
      let up = with_token (suc paid.0) s (woken scene step run paid.0 owed.0 s paid.2) in let more = up.1 in (up.0, omega arith, up.2)

  awake_or_waits : (i s : ℕ) → (scene i).phase s ≡ asleep → IsAwakeLater i s ⊎ HasToWait (scene i) s
  awake_or_waits i s sleeps = ⊎_elim (λ alert. inl (alerted_rises i s alert)) inr
      (no_wake_is_lost (scene i) (reached_at scene step run i) s sleeps)

  waits_on : (i s : ℕ) → ((j : ℕ) → i ≤ j → (scene j).phase s ≡ asleep) → (j : ℕ) → i ≤ j → HasToWait (scene j) s
  waits_on i s always j later = ⊎_elim (λ up. let more = up.1 in absurd (up.2 (always up.0 (omega arith)))) (λ waits. waits)
      (awake_or_waits j s (always j later))

pub nobody_sleeps_in_vain : NobodySleepsInVain
nobody_sleeps_in_vain scene step run arrive i s sleeps not =
    ⊎_elim (λ up. up) (λ waits. absurd (not waits)) (awake_or_waits scene step run arrive i s sleeps)

pub sleep_for_ever_is_a_wait : SleepForEverIsAWait
sleep_for_ever_is_a_wait scene step run arrive i s always = let wait = waits_on scene step run arrive i s always in
    let x = wait i (omega arith) in (
      x.lock,
      λ j later. (wait j later, stands_at scene step run i s x.lock j always later x.stands),
    )
