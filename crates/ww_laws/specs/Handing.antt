-- A lock that passes from one owner to another: what the one did with what it guards comes before what the other does.
use Rattle.std.specs.Prelude.{ℕ, ◌≡◌, ◌≢◌, ◌<◌, ◌≤◌, ◌⊎◌, true}
use Rattle.ww_model.specs.declared.state.Holder.TheVariants.{Taken, Handed}
use Rattle.ww_model.specs.declared.event.Event.TheVariants.{Fast, FastGive, Take, Give}
use Rattle.ww_model.specs.Snapshot.{IsFirst}
use Rattle.ww_laws.specs.Scene.{Scene, Step, performs}
use Rattle.ww_laws.specs.Sleepers.{IsEndlessRun}

-- the seat releases the lock: each is one compare-exchange on the lock's owner word
abbrev pub Releases : ℕ → ℕ → Step → Type 0
Releases s n x = (x ≡ performs (FastGive s n)) ⊎ (x ≡ performs (Give s n))

-- it takes the lock, by such an operation too
abbrev pub Acquires : ℕ → ℕ → Step → Type 0
Acquires s n x = (x ≡ performs (Fast s n)) ⊎ (x ≡ performs (Take s n))

-- Seat s had the lock from i to its release, and seat t takes it later, and has it from then on to j.
pub record PassesOn (scene : ℕ → Scene) (step : ℕ → Step) (n s t i j : ℕ) : Type 0 where
  pub released : ℕ
  pub taken : ℕ
  pub from : i ≤ released
  pub order : released < taken
  pub before : taken < j
  pub until : (k : ℕ) → i ≤ k → k ≤ released → (scene k).core.owner n ≡ Taken s
  pub gives : Releases s n (step released)
  pub takes : Acquires t n (step taken)
  pub since : (k : ℕ) → taken < k → k ≤ j → (scene k).core.owner n ≡ Taken t

-- Whenever one seat has a lock and later another has it, the first released it and the other took it after that.
abbrev pub OwnersHandOver : Type 0
OwnersHandOver = (scene : ℕ → Scene) (step : ℕ → Step) → IsEndlessRun scene step → (i j s t n : ℕ) → i ≤ j →
    (scene i).core.owner n ≡ Taken s → (scene j).core.owner n ≡ Taken t → s ≢ t → PassesOn scene step n s t i j

-- ---- nobody goes past the first waiter once it has asked

-- From when the first waiter of a lock has asked for it, the lock stays with its owner, or is handed to that waiter: for as long
-- as it is the first.
abbrev pub NobodyGoesPast : Type 0
NobodyGoesPast = (scene : ℕ → Scene) (step : ℕ → Step) → IsEndlessRun scene step → (i j s t n : ℕ) → i ≤ j →
    (scene i).core.owner n ≡ Taken t → (scene i).core.asked n ≡ true →
    ((k : ℕ) → i ≤ k → k ≤ j → IsFirst ((scene k).core.queue n) s) →
    ((scene j).core.owner n ≡ Taken t) ⊎ ((scene j).core.owner n ≡ Handed s)
