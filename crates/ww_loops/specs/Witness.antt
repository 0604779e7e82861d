-- None of this speaks of nothing: in each kind a drive keeps all that is asked of loops and lock calls.
use Rattle.std.specs.Prelude.{ℕ, suc, ◌≡◌, ◌<◌, List, [], ◌∷◌}
use Rattle.ww_queue.specs.declared.kind.Kind.{Kind}
use Rattle.ww_invariant.specs.declared.cells.Start.{Start}
use Rattle.ww_laws.specs.GoingOn.{AreDeadlocked}
use Rattle.ww_laws.specs.Premises.{HoldersRelease, ContextsEndOrDie}
use Rattle.ww_refines.specs.Moment.{core}
use Rattle.ww_steps.specs.declared.turn.Answer.TheVariants.{Deadlk}
use Rattle.ww_callers.specs.Stages.{Stage}
use Rattle.ww_callers.specs.Deeds.{go_on, Deed, answers}
use Rattle.ww_callers.specs.Drives.{IsEndlessDrive}
use Rattle.ww_callers.specs.Witness.{IsOfWorld}
use Rattle.ww_loops.specs.Contexts.{as_scenes, steps_by, AllAreServed}
use Rattle.ww_loops.specs.Calls.{LockCall, TookTheLock}
use Rattle.ww_loops.specs.Loops.{LoopState, ease, told, ProgramGoesOn, AreLoops, IsOldestInLoop}

-- Two desks of a world of the kind lock in loops, of which each has begun, that of the oldest context too; programs go on, also as is
-- asked where contexts are over in the end; drivers are scheduled; and a lock call of one of them takes its lock.
pub record HasLoopsDriven (kind : Kind) : Type 0 where
  pub key : Start
  pub stage : ℕ → Stage key
  pub deed : ℕ → Deed
  pub phase : ℕ → ℕ → LoopState
  pub asked : ℕ → ℕ → List ℕ
  pub of_kind : key.kind ≡ kind
  pub core_kind : (core (stage 0).moment).kind ≡ kind
  pub world : IsOfWorld key
  pub some : 1 < key.seats
  pub are : AreLoops stage deed phase asked
  pub served : AllAreServed stage deed
  pub goes_on : (d : ℕ) → d < key.seats → ProgramGoesOn stage deed phase asked d
  pub release : HoldersRelease (as_scenes stage) (steps_by key deed)
  pub end_or_die : ContextsEndOrDie (as_scenes stage) (steps_by key deed)
  pub begun : (d : ℕ) → d < key.seats → phase 0 d ≡ ease
  pub oldest : (d : ℕ) × (d < key.seats) × IsOldestInLoop stage deed phase d 0
  pub call : (d n i j : ℕ) × (d < key.seats) × LockCall stage deed d n i j

-- There is such a drive in each kind.
abbrev pub LoopsAreInDrives : Type 0
LoopsAreInDrives = (kind : Kind) → HasLoopsDriven kind

-- Two desks of a world of the kind lock in loops, and are deadlocked; one is told EDEADLK.
pub record HasLoopTold (kind : Kind) : Type 0 where
  pub key : Start
  pub stage : ℕ → Stage key
  pub deed : ℕ → Deed
  pub phase : ℕ → ℕ → LoopState
  pub asked : ℕ → ℕ → List ℕ
  pub of_kind : key.kind ≡ kind
  pub world : IsOfWorld key
  pub are : AreLoops stage deed phase asked
  pub deadlocked : AreDeadlocked (core (stage 0).moment) (0 ∷ 1 ∷ [])
  pub is_told : (j d m k : ℕ) × (d < key.seats) × (deed j ≡ answers d go_on (Deadlk k)) × (phase (suc j) d ≡ told m)

-- There is such a drive in each kind.
abbrev pub LoopsAreToldInDrives : Type 0
LoopsAreToldInDrives = (kind : Kind) → HasLoopTold kind

-- Where desks may say of themselves what their seats don't know, a call answers that it has a lock that it never took.
pub record HasFalseClaim (kind : Kind) : Type 0 where
  pub key : Start
  pub stage : ℕ → Stage key
  pub deed : ℕ → Deed
  pub of_kind : key.kind ≡ kind
  pub world : IsOfWorld key
  pub endless : IsEndlessDrive stage deed
  pub call : (d n i j : ℕ) × (d < key.seats) × LockCall stage deed d n i j × (¬ TookTheLock stage deed d n i j)

abbrev pub ClaimsAreFalseWithoutSeats : Type 0
ClaimsAreFalseWithoutSeats = (kind : Kind) → HasFalseClaim kind
