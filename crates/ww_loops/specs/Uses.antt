-- What theorems come to, in words of the locks and of what desks do. Each of these sentences is proved of the theorem alone, so a
-- theorem that said less wouldn't give it.
use Rattle.std.specs.Prelude.{ℕ, suc, ◌≡◌, ◌≢◌, ◌<◌, ◌≤◌, ◌⊎◌, true, false, List, [], Some, IsSome, Ok}
use Rattle.ww_plain.specs.Numbers.{is_among}
use Rattle.ww_queue.specs.declared.kind.Kind.{Kind}
use Rattle.ww_queue.specs.declared.kind.Kind.TheVariants.{WoundWait, WaitDie}
use Rattle.ww_queue.specs.Queue.{Stands, StandsNot}
use Rattle.ww_model.specs.declared.event.Event.{Event}
use Rattle.ww_model.specs.declared.event.Event.TheVariants.{Fast, Take, Die, End, Leave}
use Rattle.ww_model.specs.declared.event.Answer.TheVariants as core_answer
use Rattle.ww_model.specs.declared.state.Holder.TheVariants.{Nobody, Taken, Handed}
use Rattle.ww_model.specs.State.{State, OwnsNone, OwnsSome, dies}
use Rattle.ww_model.specs.Event.{Possible, answer}
use Rattle.ww_model.specs.Met.{MeetsNow, MeetsAt}
use Rattle.ww_model.specs.Run.{Reached}
use Rattle.ww_model.specs.Snapshot.{IsFirst}
use Rattle.ww_model.specs.Waits.{IsOneOf, IsCondemned}
use Rattle.ww_invariant.specs.declared.cells.Start.{Start}
use Rattle.ww_laws.specs.Scene.{performs}
use Rattle.ww_laws.specs.Premises.{HoldersRelease, IsOldestActive}
use Rattle.ww_laws.specs.GoingOn.{AreDeadlocked, HasDeadlockedRun}
use Rattle.ww_refines.specs.Moment.{core}
use Rattle.ww_steps.specs.declared.outlook.Age.{Age}
use Rattle.ww_steps.specs.declared.outlook.Outlook.TheVariants.{Owned}
use Rattle.ww_steps.specs.declared.turn.Answer.{Answer}
use Rattle.ww_steps.specs.declared.turn.Answer.TheVariants.{Done, Busy}
use Rattle.ww_steps.specs.Outlooks.{IsOutlookAnswer}
use Rattle.ww_steps.specs.Situations.{is_at_rest}
use Rattle.ww_callers.specs.Stages.{Stage}
use Rattle.ww_callers.specs.Deeds.{is_free, outlook, Deed, steps, Accounts, IsDrivenBy}
use Rattle.ww_callers.specs.Drives.{IsDueBy, IsEndlessDriveBy, IsEndlessDrive, IsServed, AnswersLater}
use Rattle.ww_loops.specs.Contexts.{as_scenes, steps_by, AllAreServed}
use Rattle.ww_loops.specs.Calls.{LockCall}
use Rattle.ww_loops.specs.Loops.{LoopState, outside, owes, IsOldestInLoop}
use Rattle.ww_loops.specs.Witness.{HasLoopsDriven}

-- ---- loops, in drives such as that of the witness

-- The loop ends later, and its context has each lock then that its last round asked for, and no other but the one that it owes.
pub record EndsWithItsLocks {key : Start} (stage : ℕ → Stage key) (phase : ℕ → ℕ → LoopState) (asked : ℕ → ℕ → List ℕ) (d i : ℕ)
    : Type 0 where
  pub at : ℕ
  pub later : i ≤ at
  pub runs : phase at d ≢ outside
  pub ends : phase (suc at) d ≡ outside
  pub has : (n : ℕ) → is_among n (asked at d) ≡ true → (core (stage at).moment).owner n ≡ Taken d
  pub only : (n : ℕ) → (core (stage at).moment).owner n ≡ Taken d → (is_among n (asked at d) ≡ true) ⊎ (phase at d ≡ owes n)

-- In Wait-Die each loop does.
abbrev pub EachLoopEnds : Type 0
EachLoopEnds = (w : HasLoopsDriven WaitDie) (i d : ℕ) → d < w.key.seats → w.phase i d ≢ outside →
    EndsWithItsLocks w.stage w.phase w.asked d i

-- In Wound-Wait that of the oldest context does, if nobody has signed or cancels it, and it doesn't wait forever while it has no lock.
abbrev pub OldestLeavesItsLoop : Type 0
OldestLeavesItsLoop = (w : HasLoopsDriven WoundWait) (i d : ℕ) → d < w.key.seats → IsOldestInLoop w.stage w.deed w.phase d i →
    ((j n : ℕ) → i ≤ j → w.deed j ≢ steps d (Some (performs (Leave d n)))) →
    ((j n : ℕ) → i ≤ j → OwnsNone (core (w.stage j).moment) d →
    ¬ ((k : ℕ) → j ≤ k → Stands ((core (w.stage k).moment).queue n) d)) → EndsWithItsLocks w.stage w.phase w.asked d i

-- Its desk ends a context later, or the context has no lock from then on and waits for none.
pub record IsOverLater {key : Start} (stage : ℕ → Stage key) (deed : ℕ → Deed) (d i : ℕ) : Type 0 where
  pub at : ℕ
  pub later : i ≤ at
  pub over : (deed at ≡ steps d (Some (performs (End d)))) ⊎ ((k n : ℕ) → at ≤ k →
      (core (stage k).moment).stamp d ≡ (core (stage at).moment).stamp d →
      ((core (stage k).moment).owner n ≢ Taken d) × StandsNot ((core (stage k).moment).queue n) d)

-- In Wait-Die each context that locks in loops is over.
abbrev pub EachContextIsOver : Type 0
EachContextIsOver = (w : HasLoopsDriven WaitDie) (i d : ℕ) → 0 < (core (w.stage i).moment).stamp d → IsOverLater w.stage w.deed d i

-- In Wound-Wait the oldest context, once it has a lock, has each one later for which it waits, if nobody has signed or cancels it.
abbrev pub OldestHasItsLock : Type 0
OldestHasItsLock = (key : Start) (stage : ℕ → Stage key) (deed : ℕ → Deed) → IsEndlessDriveBy Accounts stage deed →
    AllAreServed stage deed → HoldersRelease (as_scenes stage) (steps_by key deed) → (i d n : ℕ) →
    (core (stage i).moment).kind ≡ WoundWait → IsOldestActive (as_scenes stage) (steps_by key deed) d i →
    (core (stage i).moment).sign d ≡ 0 → OwnsSome (core (stage i).moment) d → Stands ((core (stage i).moment).queue n) d →
    ((j : ℕ) → i ≤ j → deed j ≢ steps d (Some (performs (Leave d n)))) →
    (j : ℕ) × (i < j) × ((core (stage j).moment).owner n ≡ Taken d)

-- Each lock call of the witness gives its desk the lock, by a step of the desk between the call and the answer, and the desk keeps it.
abbrev pub CallsGiveTheLock : Type 0
CallsGiveTheLock = (kind : Kind) (w : HasLoopsDriven kind) (d n i j : ℕ) → d < w.key.seats → LockCall w.stage w.deed d n i j →
    (k : ℕ) × (i < k) × (k < j)
    × ((w.deed k ≡ steps d (Some (performs (Fast d n)))) ⊎ (w.deed k ≡ steps d (Some (performs (Take d n)))))
    × ((x : ℕ) → k < x → x ≤ suc j → (core (w.stage x).moment).owner n ≡ Taken d)

-- ---- deadlocks and sleepers

-- One of the seats gets EDEADLK at a lock later, or is cancelled there, and then waits for it no more.
pub record OneGivesWay {key : Start} (stage : ℕ → Stage key) (deed : ℕ → Deed) (seats : List ℕ) (i : ℕ) : Type 0 where
  pub at : ℕ
  pub later : i ≤ at
  pub seat : ℕ
  pub lock : ℕ
  pub one : IsOneOf seat seats
  pub by : (deed at ≡ steps seat (Some (performs (Die seat lock)))) ⊎ (deed at ≡ steps seat (Some (performs (Leave seat lock))))
  pub waits_no_more : StandsNot ((core (stage (suc at)).moment).queue lock) seat

abbrev pub DeadlocksGiveWay : Type 0
DeadlocksGiveWay = (key : Start) (stage : ℕ → Stage key) (deed : ℕ → Deed) → IsEndlessDriveBy Accounts stage deed →
    (i : ℕ) (seats : List ℕ) → ((s : ℕ) → IsOneOf s seats → IsServed stage deed s) →
    AreDeadlocked (core (stage i).moment) seats → OneGivesWay stage deed seats i

-- So it is in the run of ww_laws that begins with a deadlock.
abbrev pub DeadlockOfScenesGivesWay : Type 0
DeadlockOfScenesGivesWay = (kind : Kind) (w : HasDeadlockedRun kind) → (j s n : ℕ) × IsOneOf s w.seats
    × ((w.step j ≡ performs (Die s n)) ⊎ (w.step j ≡ performs (Leave s n)))

-- The seat waits in the list of a lock outside of all guards. No lock is there for it; it isn't wounded, nor has it to die; and no
-- cancel is pending that its call heeds.
pub record WaitsInAList {key : Start} (g : Stage key) (s : ℕ) : Type 0 where
  pub lock : ℕ
  pub stands : Stands ((core g.moment).queue lock) s
  pub outside : (n : ℕ) → (core g.moment).guard n ≢ suc s
  pub not_handed : (n : ℕ) → (core g.moment).owner n ≢ Handed s
  pub not_first : (n : ℕ) → (core g.moment).owner n ≡ Nobody → ¬ IsFirst ((core g.moment).queue n) s
  pub unsigned : (core g.moment).sign s ≡ 0
  pub not_condemned : ¬ IsCondemned (core g.moment) s
  pub needs_not_die : (core g.moment).kind ≡ WaitDie → (core g.moment).guard lock ≡ 0 → ¬ IsSome (dies (core g.moment) s lock)
  pub uncancelled : g.moment.heeds s ≡ true → (core g.moment).cancel s ≡ 0

-- Whoever sleeps without a token does, if no desk whose thread is awake has yet to wake it.
abbrev pub SleepersWait : Type 0
SleepersWait = (key : Start) (g : Stage key) → IsDrivenBy Accounts g → (s : ℕ) → s < key.seats → g.moment.asleep s ≡ true →
    g.moment.token s ≡ false → ((t : ℕ) → t < key.seats → g.moment.asleep t ≡ false → ¬ IsDueBy g t s) → WaitsInAList g s

-- ---- answers

-- A desk said that a lock is free, that it isn't, or whose it is; so it was between the call and the answer.
pub record LooksSaw : Type 0 where
  pub free : (key : Start) (stage : ℕ → Stage key) (deed : ℕ → Deed) → IsEndlessDrive stage deed → (d n i j : ℕ) →
      AnswersLater deed d i j (is_free n) Done → (k : ℕ) × (i < k) × (k < j) × ((core (stage k).moment).owner n ≡ Nobody)
      × ((core (stage k).moment).queue n ≡ [])
  pub busy : (key : Start) (stage : ℕ → Stage key) (deed : ℕ → Deed) → IsEndlessDrive stage deed → (d n i j : ℕ) →
      AnswersLater deed d i j (is_free n) Busy → is_at_rest ((stage j).desk d).turn ≡ true → (k : ℕ) × (i < k) × (k < j)
      × ((core (stage k).moment).owner n ≡ Nobody → (core (stage k).moment).queue n ≢ [])
  pub whose : (key : Start) (stage : ℕ → Stage key) (deed : ℕ → Deed) → IsEndlessDrive stage deed → (d n i j t : ℕ) (a : Answer)
      (age : Age) → AnswersLater deed d i j (outlook n) a →
      IsOutlookAnswer ((stage j).desk d) n (Ok (Owned t age)) ((stage (suc j)).desk d) → (k : ℕ) × (i < k) × (k < j)
      × (((core (stage k).moment).owner n ≡ Taken t) ⊎ ((core (stage k).moment).owner n ≡ Handed t))

-- The event is the death of a seat that has a lock. In Wait-Die an older context owns the other lock, or stands before the seat in its
-- list. In Wound-Wait one that holds locks waited for a lock of the seat.
pub record HadToBackOff (c : State) (e : Event) (k : ℕ) : Type 0 where
  pub seat : ℕ
  pub lock : ℕ
  pub event : e ≡ Die seat lock
  pub owns : (n : ℕ) × (c.owner n ≡ Taken seat)
  pub met : c.kind ≡ WaitDie → MeetsAt c seat k lock
  pub wounded : c.kind ≡ WoundWait → (d : State) × Reached d × MeetsNow d seat k

-- Whoever gets EDEADLK had to back off.
abbrev pub DeadlkHadAReason : Type 0
DeadlkHadAReason = (c : State) → Reached c → (e : Event) (k : ℕ) → Possible c e → answer c e ≡ core_answer.Deadlk k →
    HadToBackOff c e k
