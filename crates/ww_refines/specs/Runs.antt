-- Whole runs of threads are runs of scenes.
use Rattle.std.specs.Prelude.{ℕ, ◌≡◌, ◌≢◌, ◌<◌, ◌≤◌, ◌+◌, ◌⊎◌, Bool, true, false, [], ◌∷◌, Option, Some, None}
use Rattle.ww_queue.specs.Queue.{Has}
use Rattle.ww_model.specs.State.{start}
use Rattle.ww_invariant.specs.declared.cells.Start.{Start}
use Rattle.ww_invariant.specs.Rule.{St, Ruled, first_sight, wakes_owed}
use Rattle.ww_laws.specs.Scene.{Phase, acting, going_to_sleep, asleep, Scene, Step, first_scene, May, next, IsReached}
use Rattle.ww_laws.specs.Sleepers.{HasToWait}
use Rattle.ww_refines.specs.Moment.{Moment, view, HasToWake, Acts, IsFirstMoment}
use Rattle.ww_refines.specs.Tables.{TableMoment, moment_of}
use Rattle.ww_refines.specs.Moves.{Follows}

-- ---- the scene that a moment shows

-- the phase of a seat, by whether it sleeps, how often it has risen, and how often it left a guard as a waiter
abbrev pub IsPhase : Phase → Bool → ℕ → ℕ → Type 0
IsPhase acting sleeps risen naps = (sleeps ≡ false) × (risen ≡ naps)
IsPhase going_to_sleep sleeps risen naps = (sleeps ≡ false) × (risen + 1 ≡ naps)
IsPhase asleep sleeps risen naps = (sleeps ≡ true) × (risen + 1 ≡ naps)

-- The moment shows this scene: its locks, tokens and phases (a number that no seat has acts), and whom each seat has
-- yet to wake, as far as the scene asks it to; where a view says inside a guard that the seat has just found no sign,
-- or that it has found no cancel, it has. No seat gave more tokens than it owes wakes; and inside a guard it has yet
-- to wake those whom it condemned there.
pub record IsSceneOf {key : Start} (m : Moment key) (w : Scene) : Type 0 where
  pub core : w.core ≡ m.core
  pub token : w.token ≡ m.token
  pub heeds : w.heeds ≡ m.heeds
  pub phase : (t : ℕ) → t < key.seats → IsPhase (w.phase t) (m.asleep t) (m.risen t) (view m t).naps
  pub strangers : (t : ℕ) → key.seats ≤ t → w.phase t ≡ acting
  pub owes : (s u : ℕ) → w.owes s u ≡ true → HasToWake m s u
  pub fresh : (t : ℕ) → t < key.seats → (view m t).inside ≢ 0 → (view m t).fresh ≡ true → w.found_no_sign t ≡ true
  pub uncancelled : (t : ℕ) → t < key.seats → (view m t).inside ≢ 0 → (view m t).uncancelled ≡ true →
      w.found_no_cancel t ≡ true
  pub even : (s u : ℕ) → s < key.seats → m.rung s u ≤ wakes_owed (m.part s) u
  pub condemned : (s u : ℕ) → s < key.seats → (view m s).inside ≢ 0 → Has (view m s).condemned u → u ≢ s →
      m.rung s u < wakes_owed (m.part s) u

-- some steps lead to a scene that the moment shows
pub record ShowsScene {key : Start} (m : Moment key) : Type 0 where
  pub scene : Scene
  pub reached : IsReached scene
  pub shown : IsSceneOf m scene

-- ---- from one moment to the next

-- the table is that of a moment at which nothing was done yet
pub record Begins (key : Start) (s : St) : Type 0 where
  pub moment : TableMoment key
  pub table : moment.table ≡ s
  pub first : IsFirstMoment (moment_of moment)

-- and a table made just now is
abbrev pub NewTablesBegin : Type 0
NewTablesBegin = (key : Start) (s : St) (r : Ruled key s) → s.views ≡ first_sight key ∷ [] →
    r.core ≡ start key.kind key.locks key.places → Begins key s

-- where nothing was done yet, that is the start of the scene
abbrev pub StartIsStart : Type 0
StartIsStart = (key : Start) (m : Moment key) → IsFirstMoment m → IsSceneOf m (first_scene key.kind key.locks key.places)

-- the scene may make that step, and the next moment shows the scene after it
pub record GoesAlong {key : Start} (m' : Moment key) (w : Scene) (x : Step) : Type 0 where
  pub may : May w x
  pub shown : IsSceneOf m' (next w x)

-- whatever a thread does that is to be a step of the scene is that step
abbrev pub MovesAreSteps : Type 0
MovesAreSteps = (key : Start) (m m' : Moment key) (w : Scene) (x : Step) → IsReached w → IsSceneOf m w →
    Follows m m' (Some x) → GoesAlong m' w x

-- and whatever isn't leaves the scene as it is
abbrev pub OthersAreNone : Type 0
OthersAreNone = (key : Start) (m m' : Moment key) (w : Scene) → IsSceneOf m w → Follows m m' None → IsSceneOf m' w

-- ---- whole runs

-- a moment of a run: one that some moves lead to from where nothing was done yet
pub data IsOfRun {key : Start} : Moment key → Type 0 where
  begins : (m : Moment key) → IsFirstMoment m → IsOfRun m
  goes_on : (m m' : Moment key) (x : Option Step) → IsOfRun m → Follows m m' x → IsOfRun m'

-- each moment of a run shows a scene that is reached
abbrev pub RunsShowScenes : Type 0
RunsShowScenes = (key : Start) (m : Moment key) → IsOfRun m → ShowsScene m

-- ---- no wake-up is lost, in the threads' words

-- the seat has a token, or another that doesn't sleep has yet to wake it
abbrev pub IsAlertedThere : {key : Start} → Moment key → ℕ → Type 0
IsAlertedThere m s = (m.token s ≡ true) ⊎ ((t : ℕ) × HasToWake m t s × (m.asleep t ≡ false))

-- The seat has to wait, by the locks and by whether its call heeds cancels: that asks nothing else of a scene.
abbrev pub HasToWaitThere : {key : Start} → Moment key → ℕ → Type 0
HasToWaitThere m s = HasToWait (record {
  core = m.core;
  phase = λ _. acting;
  token = λ _. false;
  owes = λ _ _. false;
  found_no_sign = λ _. false;
  found_no_cancel = λ _. false;
  heeds = m.heeds;
}) s

-- each seat that sleeps in a run, and neither was woken nor is about to be, has to wait
abbrev pub NoWakeIsLostInRuns : Type 0
NoWakeIsLostInRuns = (key : Start) (m : Moment key) → IsOfRun m → (s : ℕ) → s < key.seats → m.asleep s ≡ true →
    IsAlertedThere m s ⊎ HasToWaitThere m s

-- each seat that is inside a guard acts
abbrev pub GuardsAreHeldAwakeInRuns : Type 0
GuardsAreHeldAwakeInRuns = (key : Start) (m : Moment key) → IsOfRun m → (s : ℕ) → s < key.seats →
    (view m s).inside ≢ 0 → Acts m s
