-- Contexts are served in runs of threads. What is asked of programs is what ww_laws asks, of the scenes that the moments
-- show.
use Rattle.std.specs.Prelude.{ℕ, ◌≡◌, ◌≢◌, ◌<◌, ◌≤◌, ◌⊎◌, Option, Some}
use Rattle.ww_queue.specs.declared.kind.Kind.TheVariants.{WoundWait, WaitDie}
use Rattle.ww_queue.specs.Queue.{Stands}
use Rattle.ww_model.specs.declared.event.Event.TheVariants.{Sign, Take, Die, Leave}
use Rattle.ww_model.specs.State.{OwnsSome}
use Rattle.ww_invariant.specs.declared.cells.Start.{Start}
use Rattle.ww_laws.specs.Scene.{Step, performs}
use Rattle.ww_laws.specs.Backing.{OlderAreOver}
use Rattle.ww_laws.specs.Premises.{InTheEnd, HoldersRelease, IsOver, IsOldestActive, ContextsEnd, WaitsOwning, BacksOff, TakesContendedFirst, ContextsEndOrDie}
use Rattle.ww_refines.specs.Moment.{Moment, core}
use Rattle.ww_refines.specs.Endless.{IsEndless, step_of, RunsAlong}
use Rattle.ww_refines.specs.Deadlocks.{IsScheduledThere}

-- the steps of the scenes
abbrev pub steps_of : Start → (ℕ → Option Step) → ℕ → Step
steps_of key move = λ i. step_of key (move i)

-- each thread is scheduled while it waits
abbrev pub AllAreScheduled : {key : Start} → (ℕ → Moment key) → (ℕ → Option Step) → Type 0
AllAreScheduled {key = key} moment move = (s : ℕ) → s < key.seats → IsScheduledThere moment move s

-- the seat takes the lock for which it waits, or is cancelled
abbrev pub TakesOrLeaves : ℕ → ℕ → Option Step → Type 0
TakesOrLeaves s n x = (x ≡ Some (performs (Take s n))) ⊎ (x ≡ Some (performs (Leave s n)))

-- ... or gets EDEADLK
abbrev pub EndsWaitThere : ℕ → ℕ → Option Step → Type 0
EndsWaitThere s n x = TakesOrLeaves s n x ⊎ (x ≡ Some (performs (Die s n)))

-- The oldest context of those that don't rest on, if it has no sign in Wound-Wait, is never signed and gets no EDEADLK, as
-- long as it goes on.
abbrev pub OldestNeverGivesWayInRuns : Type 0
OldestNeverGivesWayInRuns = (key : Start) (moment : ℕ → Moment key) (move : ℕ → Option Step) → IsEndless moment move →
    (a : RunsAlong moment move) → (i j s : ℕ) → i ≤ j → IsOldestActive a.scene (steps_of key move) s i →
    ((core (moment i)).kind ≡ WoundWait → (core (moment i)).sign s ≡ 0) →
    (core (moment j)).stamp s ≡ (core (moment i)).stamp s →
    ((t : ℕ) → move j ≢ Some (performs (Sign t s))) × ((n : ℕ) → move j ≢ Some (performs (Die s n)))

-- In Wound-Wait the oldest of those, if it has no sign, and has a lock already, gets each lock that it waits for, unless it
-- is cancelled: if each seat that has a lock releases it in the end, unless it waits forever.
abbrev pub OldestIsServedInRuns : Type 0
OldestIsServedInRuns = (key : Start) (moment : ℕ → Moment key) (move : ℕ → Option Step) → IsEndless moment move →
    AllAreScheduled moment move → (a : RunsAlong moment move) → HoldersRelease a.scene (steps_of key move) →
    (i s n : ℕ) → (core (moment i)).kind ≡ WoundWait → IsOldestActive a.scene (steps_of key move) s i →
    (core (moment i)).sign s ≡ 0 → OwnsSome (core (moment i)) s → Stands ((core (moment i)).queue n) s →
    InTheEnd i (λ j. TakesOrLeaves s n (move j))

-- So it ends, or comes to rest, unless it is cancelled, if its program comes to an end, and it waits only while it owns a
-- lock.
abbrev pub OldestEndsInRuns : Type 0
OldestEndsInRuns = (key : Start) (moment : ℕ → Moment key) (move : ℕ → Option Step) → IsEndless moment move →
    AllAreScheduled moment move → (a : RunsAlong moment move) → HoldersRelease a.scene (steps_of key move) →
    (i s : ℕ) → (core (moment i)).kind ≡ WoundWait → IsOldestActive a.scene (steps_of key move) s i →
    (core (moment i)).sign s ≡ 0 → ContextsEnd a.scene (steps_of key move) s →
    WaitsOwning a.scene (steps_of key move) s i →
    InTheEnd i (λ j. IsOver a.scene (steps_of key move) s j ⊎ ((n : ℕ) × (move j ≡ Some (performs (Leave s n)))))

-- In Wait-Die each context gets each lock that it waits for, unless it gets EDEADLK or is cancelled: if programs come to
-- an end, and each seat that gets EDEADLK releases all that it has and then takes the contended lock first.
abbrev pub ContextsAreServedInRuns : Type 0
ContextsAreServedInRuns = (key : Start) (moment : ℕ → Moment key) (move : ℕ → Option Step) → IsEndless moment move →
    AllAreScheduled moment move → (a : RunsAlong moment move) → HoldersRelease a.scene (steps_of key move) →
    ContextsEndOrDie a.scene (steps_of key move) → BacksOff a.scene (steps_of key move) →
    TakesContendedFirst a.scene (steps_of key move) → (i s n : ℕ) → (core (moment i)).kind ≡ WaitDie →
    0 < (core (moment i)).stamp s → Stands ((core (moment i)).queue n) s → InTheEnd i (λ j. EndsWaitThere s n (move j))

-- The oldest of those that don't rest on gets each of them, unless it is cancelled.
abbrev pub OldestWaitDieIsServedInRuns : Type 0
OldestWaitDieIsServedInRuns = (key : Start) (moment : ℕ → Moment key) (move : ℕ → Option Step) → IsEndless moment move →
    AllAreScheduled moment move → (a : RunsAlong moment move) → HoldersRelease a.scene (steps_of key move) →
    ContextsEndOrDie a.scene (steps_of key move) → BacksOff a.scene (steps_of key move) →
    TakesContendedFirst a.scene (steps_of key move) → (i s n : ℕ) → (core (moment i)).kind ≡ WaitDie →
    IsOldestActive a.scene (steps_of key move) s i → Stands ((core (moment i)).queue n) s →
    InTheEnd i (λ j. TakesOrLeaves s n (move j))

-- ---- backing off ends

-- from j on the context that the seat has at i gets EDEADLK once at most, and in Wait-Die never
pub record DiesNoMoreThere {key : Start} (moment : ℕ → Moment key) (move : ℕ → Option Step) (s i j : ℕ) : Type 0 where
  pub once : (k l m n : ℕ) → j ≤ k → k < l → move k ≡ Some (performs (Die s m)) → move l ≡ Some (performs (Die s n)) →
      (core (moment l)).stamp s ≢ (core (moment i)).stamp s
  pub never : (core (moment i)).kind ≡ WaitDie → (k n : ℕ) → j ≤ k → move k ≡ Some (performs (Die s n)) →
      (core (moment k)).stamp s ≢ (core (moment i)).stamp s

-- In both kinds a context backs off finitely often, if each older one is over in the end.
abbrev pub BackingOffEndsInRuns : Type 0
BackingOffEndsInRuns = (key : Start) (moment : ℕ → Moment key) (move : ℕ → Option Step) → IsEndless moment move →
    (a : RunsAlong moment move) → BacksOff a.scene (steps_of key move) → (i s : ℕ) → 0 < (core (moment i)).stamp s →
    OlderAreOver a.scene (steps_of key move) s i → InTheEnd i (DiesNoMoreThere moment move s i)

-- In Wait-Die each context is over in the end, by what `ContextsAreServedInRuns` asks.
abbrev pub ContextsAreOverInRuns : Type 0
ContextsAreOverInRuns = (key : Start) (moment : ℕ → Moment key) (move : ℕ → Option Step) → IsEndless moment move →
    AllAreScheduled moment move → (a : RunsAlong moment move) → HoldersRelease a.scene (steps_of key move) →
    ContextsEndOrDie a.scene (steps_of key move) → BacksOff a.scene (steps_of key move) →
    TakesContendedFirst a.scene (steps_of key move) → (i s : ℕ) → (core (moment i)).kind ≡ WaitDie →
    0 < (core (moment i)).stamp s → InTheEnd i (IsOver a.scene (steps_of key move) s)
