-- Endless runs of threads.
use Rattle.std.specs.Prelude.{ℕ, suc, ◌≡◌, ◌<◌, ◌≤◌, true, false, Option, Some, None}
use Rattle.ww_queue.specs.declared.kind.Kind.{Kind}
use Rattle.ww_invariant.specs.declared.cells.Start.{Start}
use Rattle.ww_laws.specs.Scene.{Scene, Step, finds_no_sign, wakes, rises}
use Rattle.ww_laws.specs.Sleepers.{IsEndlessRun}
use Rattle.ww_refines.specs.Moment.{Moment, HasToWake}
use Rattle.ww_refines.specs.Moves.{Follows}
use Rattle.ww_refines.specs.Runs.{IsSceneOf, IsOfRun, HasToWaitThere}

-- an endless run of threads, with what leads from each moment to the next
pub record IsEndless {key : Start} (moment : ℕ → Moment key) (move : ℕ → Option Step) : Type 0 where
  pub begins : IsOfRun (moment 0)
  pub goes_on : (i : ℕ) → Follows (moment i) (moment (suc i)) (move i)

-- the step of the scene; where none is to be, that a number which no seat has finds no sign
abbrev pub step_of : Start → Option Step → Step
step_of key None = finds_no_sign key.seats
step_of key (Some x) = x

-- an endless run of the scene, by these steps, of which each moment shows the scene
pub record RunsAlong {key : Start} (moment : ℕ → Moment key) (move : ℕ → Option Step) : Type 0 where
  pub scene : ℕ → Scene
  pub run : IsEndlessRun scene (λ i. step_of key (move i))
  pub shown : (i : ℕ) → IsSceneOf (moment i) (scene i)

-- each endless run of threads shows an endless run of the scene
abbrev pub EndlessRunsShowScenes : Type 0
EndlessRunsShowScenes = (key : Start) (moment : ℕ → Moment key) (move : ℕ → Option Step) → IsEndless moment move →
    RunsAlong moment move

-- Each seat that has yet to wake another does so in the end, and each that sleeps with a token rises in the end.
pub record WakesArriveThere {key : Start} (moment : ℕ → Moment key) (move : ℕ → Option Step) : Type 0 where
  pub made : (i s u : ℕ) → HasToWake (moment i) s u → (j : ℕ) × (i ≤ j) × (move j ≡ Some (wakes s u))
  pub heard : (i s : ℕ) → s < key.seats → (moment i).token s ≡ true → (moment i).asleep s ≡ true →
      (j : ℕ) × (i ≤ j) × (move j ≡ Some (rises s))

-- whichever thread sleeps without having to is awake later
abbrev pub NobodySleepsInVainInRuns : Type 0
NobodySleepsInVainInRuns = (key : Start) (moment : ℕ → Moment key) (move : ℕ → Option Step) → IsEndless moment move →
    WakesArriveThere moment move → (i s : ℕ) → s < key.seats → (moment i).asleep s ≡ true →
    ¬ HasToWaitThere (moment i) s → (j : ℕ) × (i ≤ j) × ((moment j).asleep s ≡ false)

-- each thread that sleeps forever has to wait at each moment
abbrev pub SleepForEverIsAWaitInRuns : Type 0
SleepForEverIsAWaitInRuns = (key : Start) (moment : ℕ → Moment key) (move : ℕ → Option Step) → IsEndless moment move →
    WakesArriveThere moment move → (i s : ℕ) → s < key.seats →
    ((j : ℕ) → i ≤ j → (moment j).asleep s ≡ true) → (j : ℕ) → i ≤ j → HasToWaitThere (moment j) s

-- ---- none of this speaks of nothing

-- an endless run of threads at a table of the kind, in which wakes arrive, and a thread of it are like this
pub record IsEndlessThere (kind : Kind) (P : (key : Start) → (ℕ → Moment key) → ℕ → Type 0) : Type 0 where
  pub key : Start
  pub moment : ℕ → Moment key
  pub move : ℕ → Option Step
  pub seat : ℕ
  pub of_kind : key.kind ≡ kind
  pub low : seat < key.seats
  pub endless : IsEndless moment move
  pub arrive : WakesArriveThere moment move
  pub holds : P key moment seat

-- the thread sleeps at each moment, in a call that heeds cancels
pub record SleepsForEverThere (key : Start) (moment : ℕ → Moment key) (s : ℕ) : Type 0 where
  pub sleeps : (i : ℕ) → (moment i).asleep s ≡ true
  pub heeds : (i : ℕ) → (moment i).heeds s ≡ true

-- the thread sleeps at the first moment without having to
pub record SleepsInVainThere (key : Start) (moment : ℕ → Moment key) (s : ℕ) : Type 0 where
  pub sleeps : (moment 0).asleep s ≡ true
  pub needs_not : ¬ HasToWaitThere (moment 0) s

-- so what is said of endless runs, and of who sleeps in them, is said of some
abbrev pub SleepersAreInEndlessRuns : Type 0
SleepersAreInEndlessRuns = (kind : Kind) →
    IsEndlessThere kind SleepsForEverThere × IsEndlessThere kind SleepsInVainThere
