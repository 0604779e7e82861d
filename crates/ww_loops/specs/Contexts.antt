-- Contexts are over in the end, and the oldest is served, in drives. What is asked of programs is what ww_laws asks, of the locks at
-- each stage.
use Rattle.std.specs.Prelude.{ℕ, ◌≡◌, ◌<◌, ◌⊎◌, false, Some}
use Rattle.ww_queue.specs.declared.kind.Kind.TheVariants.{WoundWait, WaitDie}
use Rattle.ww_queue.specs.Queue.{Stands}
use Rattle.ww_model.specs.declared.event.Event.TheVariants.{Take, Leave}
use Rattle.ww_model.specs.State.{OwnsSome}
use Rattle.ww_invariant.specs.declared.cells.Start.{Start}
use Rattle.ww_laws.specs.Scene.{Scene, acting, Step, performs}
use Rattle.ww_laws.specs.Premises.{InTheEnd, HoldersRelease, IsOver, IsOldestActive, BacksOff, TakesContendedFirst, ContextsEndOrDie}
use Rattle.ww_refines.specs.Moment.{core}
use Rattle.ww_refines.specs.Endless.{step_of}
use Rattle.ww_callers.specs.Stages.{Stage}
use Rattle.ww_callers.specs.Deeds.{Deed, steps, Accounts}
use Rattle.ww_callers.specs.Drives.{thread_move, IsEndlessDriveBy, IsServed}

-- The locks at each stage, as the scene that ww_laws speaks of. Its premises of programs ask nothing of who sleeps, or has to wake
-- whom.
abbrev pub as_scenes : {key : Start} → (ℕ → Stage key) → ℕ → Scene
as_scenes stage i = record {
  core = core (stage i).moment;
  phase = λ _. acting;
  token = λ _. false;
  owes = λ _ _. false;
  found_no_sign = λ _. false;
  found_no_cancel = λ _. false;
  heeds = λ _. false;
}

-- what each deed does to them
abbrev pub steps_by : Start → (ℕ → Deed) → ℕ → Step
steps_by key deed i = step_of key (thread_move (deed i))

-- each seat's driver is scheduled while the seat waits
abbrev pub AllAreServed : {key : Start} → (ℕ → Stage key) → (ℕ → Deed) → Type 0
AllAreServed {key = key} stage deed = (s : ℕ) → s < key.seats → IsServed stage deed s

-- In Wait-Die each context is over in the end: it ends, or rests from then on. For that each seat that has a lock releases it in
-- the end, unless it waits forever; each context is over in the end, unless it waits forever or gets EDEADLK; and each seat that
-- gets EDEADLK releases all that it has and then takes the contended lock first.
abbrev pub ContextsAreOverInDrives : Type 0
ContextsAreOverInDrives = (key : Start) (stage : ℕ → Stage key) (deed : ℕ → Deed) → IsEndlessDriveBy Accounts stage deed →
    AllAreServed stage deed → HoldersRelease (as_scenes stage) (steps_by key deed) →
    ContextsEndOrDie (as_scenes stage) (steps_by key deed) → BacksOff (as_scenes stage) (steps_by key deed) →
    TakesContendedFirst (as_scenes stage) (steps_by key deed) → (i s : ℕ) → (core (stage i).moment).kind ≡ WaitDie →
    0 < (core (stage i).moment).stamp s → InTheEnd i (IsOver (as_scenes stage) (steps_by key deed) s)

-- In Wound-Wait the oldest context of those that don't rest on, if it has no sign, and has a lock already, gets each lock that it
-- waits for, unless it is cancelled: if each seat that has a lock releases it in the end, unless it waits forever.
abbrev pub OldestIsServedInDrives : Type 0
OldestIsServedInDrives = (key : Start) (stage : ℕ → Stage key) (deed : ℕ → Deed) → IsEndlessDriveBy Accounts stage deed →
    AllAreServed stage deed → HoldersRelease (as_scenes stage) (steps_by key deed) → (i s n : ℕ) →
    (core (stage i).moment).kind ≡ WoundWait → IsOldestActive (as_scenes stage) (steps_by key deed) s i →
    (core (stage i).moment).sign s ≡ 0 → OwnsSome (core (stage i).moment) s → Stands ((core (stage i).moment).queue n) s →
    InTheEnd i (λ j. (deed j ≡ steps s (Some (performs (Take s n)))) ⊎ (deed j ≡ steps s (Some (performs (Leave s n)))))
