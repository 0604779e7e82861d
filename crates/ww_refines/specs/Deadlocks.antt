-- What endless runs of threads are asked, and that no deadlock lasts in them.
use Rattle.std.specs.Prelude.{ℕ, suc, ◌≡◌, ◌≢◌, ◌<◌, ◌⊎◌, true, false, List, Option, Some}
use Rattle.ww_queue.specs.declared.kind.Kind.{Kind}
use Rattle.ww_model.specs.declared.event.Event.TheVariants.{Take, Die, Leave}
use Rattle.ww_model.specs.Waits.{IsOneOf}
use Rattle.ww_view.specs.View.{owns}
use Rattle.ww_invariant.specs.declared.cells.Start.{Start}
use Rattle.ww_laws.specs.Scene.{Step, performs, wakes, rises}
use Rattle.ww_laws.specs.Premises.{InTheEnd, LeavesToSleep, FirstsAsk}
use Rattle.ww_laws.specs.GoingOn.{AreDeadlocked}
use Rattle.ww_refines.specs.Moment.{Moment, core, view, HasToWake, Acts, HasLeftToWait}
use Rattle.ww_refines.specs.Runs.{IsOfRun}
use Rattle.ww_refines.specs.Endless.{IsEndless, step_of, RunsAlong}

-- ---- what need not be asked

-- In each endless run of threads a waiter leaves a guard only in order to sleep.
abbrev pub WaitersSleepInRuns : Type 0
WaitersSleepInRuns = (key : Start) (moment : ℕ → Moment key) (move : ℕ → Option Step) → IsEndless moment move →
    (a : RunsAlong moment move) (s : ℕ) → LeavesToSleep a.scene (λ i. step_of key (move i)) s

-- And a waiter that has looked again, and is the first in the list, goes to sleep only if it has asked for the lock,
-- or the lock is handed to somebody.
abbrev pub FirstsAskInRuns : Type 0
FirstsAskInRuns = (key : Start) (moment : ℕ → Moment key) (move : ℕ → Option Step) → IsEndless moment move →
    (a : RunsAlong moment move) → FirstsAsk a.scene (λ i. step_of key (move i))

-- ---- what is asked

-- The thread is scheduled while it waits. Each wake that it is owed is made in the end, and it rises in the end where
-- it sleeps with a token. Where it is about to sleep it isn't later; where it stands in a list and acts it is inside
-- the guard later; and where it is inside the guard it is outside of it later, or waits no more.
pub record IsScheduledThere {key : Start} (moment : ℕ → Moment key) (move : ℕ → Option Step) (s : ℕ) : Type 0 where
  pub made : (i t : ℕ) → HasToWake (moment i) t s → InTheEnd i (λ j. move j ≡ Some (wakes t s))
  pub heard : (i : ℕ) → (moment i).token s ≡ true → (moment i).asleep s ≡ true →
      InTheEnd i (λ j. move j ≡ Some (rises s))
  pub settled : (i : ℕ) → HasLeftToWait (moment i) s false → InTheEnd i (λ j. ¬ HasLeftToWait (moment j) s false)
  pub looks : (i n : ℕ) → (view (moment i) s).waits ≡ suc n → Acts (moment i) s →
      InTheEnd i (λ j. (view (moment j) s).inside ≡ suc n)
  pub leaves : (i n : ℕ) → (view (moment i) s).waits ≡ suc n → (view (moment i) s).inside ≡ suc n →
      InTheEnd i (λ j. ((view (moment j) s).inside ≢ suc n) ⊎ ((view (moment j) s).waits ≢ suc n))

-- Whenever threads are deadlocked, and scheduled, one of them gets EDEADLK or is cancelled in the end, whatever other
-- threads do.
abbrev pub NoDeadlockLastsInRuns : Type 0
NoDeadlockLastsInRuns = (key : Start) (moment : ℕ → Moment key) (move : ℕ → Option Step) → IsEndless moment move →
    (i : ℕ) (seats : List ℕ) → ((s : ℕ) → IsOneOf s seats → IsScheduledThere moment move s) →
    AreDeadlocked (core (moment i)) seats →
    InTheEnd i (λ j. (s : ℕ) × IsOneOf s seats × ((n : ℕ) ×
    ((move j ≡ Some (performs (Die s n))) ⊎ (move j ≡ Some (performs (Leave s n))))))

-- ---- where all sleep

-- The thread sleeps, and nothing is on its way to it: it has no token, and nobody has yet to wake it.
pub record SleepsUndisturbed {key : Start} (m : Moment key) (s : ℕ) : Type 0 where
  pub sleeps : m.asleep s ≡ true
  pub no_token : m.token s ≡ false
  pub unowed : (t : ℕ) → ¬ HasToWake m t s

-- So threads that all sleep undisturbed aren't deadlocked, at any moment of any run: a program that stands still forever
-- does so for another reason.
abbrev pub NoStandstillInRuns : Type 0
NoStandstillInRuns = (key : Start) (m : Moment key) → IsOfRun m → (seats : List ℕ) →
    ((s : ℕ) → IsOneOf s seats → SleepsUndisturbed m s) → ¬ AreDeadlocked (core m) seats

-- ---- waits end

-- Whichever thread has taken a lock, and waits for none, has it no more later, or waits.
abbrev pub HoldersGoOnThere : {key : Start} → (ℕ → Moment key) → Type 0
HoldersGoOnThere {key = key} moment = (i s n : ℕ) → s < key.seats → owns (view (moment i) s) n ≡ true →
    (view (moment i) s).waits ≡ 0 →
    InTheEnd i (λ j. (owns (view (moment j) s) n ≡ false) ⊎ ((view (moment j) s).waits ≢ 0))

-- the wait of some thread ends by the move: it takes its lock, gets EDEADLK, or is cancelled
pub record EndsSomeWaitThere {key : Start} (m : Moment key) (x : Option Step) : Type 0 where
  pub seat : ℕ
  pub lock : ℕ
  pub low : seat < key.seats
  pub waits : (view m seat).waits ≡ suc lock
  pub ends : (x ≡ Some (performs (Take seat lock)))
      ⊎ ((x ≡ Some (performs (Die seat lock))) ⊎ (x ≡ Some (performs (Leave seat lock))))

-- Whenever a thread waits, some wait ends later, if all threads are scheduled while they wait, and holders go on.
abbrev pub WaitsEndInRuns : Type 0
WaitsEndInRuns = (key : Start) (moment : ℕ → Moment key) (move : ℕ → Option Step) → IsEndless moment move →
    ((s : ℕ) → s < key.seats → IsScheduledThere moment move s) → HoldersGoOnThere moment →
    (i s n : ℕ) → s < key.seats → (view (moment i) s).waits ≡ suc n →
    InTheEnd i (λ j. EndsSomeWaitThere (moment j) (move j))

-- ---- none of this speaks of nothing

-- an endless run of threads at a table of the kind begins with a deadlock, of threads that are scheduled
pub record HasDeadlockThere (kind : Kind) : Type 0 where
  pub key : Start
  pub moment : ℕ → Moment key
  pub move : ℕ → Option Step
  pub seats : List ℕ
  pub of_kind : key.kind ≡ kind
  pub endless : IsEndless moment move
  pub scheduled : (s : ℕ) → IsOneOf s seats → IsScheduledThere moment move s
  pub deadlocked : AreDeadlocked (core (moment 0)) seats

-- There is such a run in each kind.
abbrev pub DeadlocksAreInEndlessRuns : Type 0
DeadlocksAreInEndlessRuns = (kind : Kind) → HasDeadlockThere kind

-- In an endless run of threads at a table of the kind all are scheduled, and holders go on; and a thread waits at first.
pub record HasWaitThere (kind : Kind) : Type 0 where
  pub key : Start
  pub moment : ℕ → Moment key
  pub move : ℕ → Option Step
  pub seat : ℕ
  pub lock : ℕ
  pub of_kind : key.kind ≡ kind
  pub low : seat < key.seats
  pub endless : IsEndless moment move
  pub scheduled : (s : ℕ) → s < key.seats → IsScheduledThere moment move s
  pub go_on : HoldersGoOnThere moment
  pub waits : (view (moment 0) seat).waits ≡ suc lock

-- There is such a run in each kind.
abbrev pub WaitsAreInEndlessRuns : Type 0
WaitsAreInEndlessRuns = (kind : Kind) → HasWaitThere kind
