-- A lock passes from one thread to another: what the one did while it had it comes before what the other does.
use Rattle.std.specs.Prelude.{ℕ, ◌≡◌, ◌≢◌, ◌<◌, ◌≤◌, ◌⊎◌, true, Option, Some}
use Rattle.ww_model.specs.declared.event.Event.TheVariants.{Fast, FastGive, Take, Give}
use Rattle.ww_view.specs.View.{owns}
use Rattle.ww_invariant.specs.declared.cells.Start.{Start}
use Rattle.ww_laws.specs.Scene.{Step, performs}
use Rattle.ww_refines.specs.Moment.{Moment, view}
use Rattle.ww_refines.specs.Endless.{IsEndless}

-- Thread s knew that it had the lock from i on until its step that released it; after that thread t took it by a step of its own,
-- and knew so from then on to j. Each of the two steps is one compare-exchange on the owner word of the lock.
pub record PassesOnThere {key : Start} (moment : ℕ → Moment key) (move : ℕ → Option Step) (n s t i j : ℕ) : Type 0 where
  pub released : ℕ
  pub taken : ℕ
  pub from : i ≤ released
  pub order : released < taken
  pub before : taken < j
  pub until : (k : ℕ) → i ≤ k → k ≤ released → owns (view (moment k) s) n ≡ true
  pub gives : (move released ≡ Some (performs (FastGive s n))) ⊎ (move released ≡ Some (performs (Give s n)))
  pub takes : (move taken ≡ Some (performs (Fast t n))) ⊎ (move taken ≡ Some (performs (Take t n)))
  pub since : (k : ℕ) → taken < k → k ≤ j → owns (view (moment k) t) n ≡ true

-- Whenever a thread has a lock, and later another has it.
abbrev pub OwnersHandOverInRuns : Type 0
OwnersHandOverInRuns = (key : Start) (moment : ℕ → Moment key) (move : ℕ → Option Step) → IsEndless moment move →
    (i j s t n : ℕ) → i ≤ j → s < key.seats → t < key.seats → owns (view (moment i) s) n ≡ true →
    owns (view (moment j) t) n ≡ true → s ≢ t → PassesOnThere moment move n s t i j
