-- No deadlock lasts.
use Rattle.std.specs.Prelude.{ℕ, ◌≡◌, ◌≢◌, ◌<◌, ◌≤◌, ◌⊎◌, List}
use Rattle.ww_queue.specs.declared.kind.Kind.{Kind}
use Rattle.ww_queue.specs.declared.kind.Kind.TheVariants.{WoundWait, WaitDie}
use Rattle.ww_queue.specs.Queue.{Stands}
use Rattle.ww_model.specs.declared.state.Holder.TheVariants.{Taken, Handed}
use Rattle.ww_model.specs.declared.event.Event.TheVariants.{Fast, Sign, Take, Die, Leave}
use Rattle.ww_model.specs.State.{State, OwnsNone, OwnsSome, InNoQueue}
use Rattle.ww_model.specs.Waits.{IsOneOf, IsCycle}
use Rattle.ww_laws.specs.Scene.{asleep, Scene, Step, performs}
use Rattle.ww_laws.specs.Sleepers.{IsDue, IsEndlessRun}
use Rattle.ww_laws.specs.Premises.{InTheEnd, Wants, WaiterGoesOn, WaitersGoOn, HoldersGoOn, HoldersRelease, IsOver, RestsOn, IsOldestActive, ContextsEnd, WaitsOwning, FirstsAsk, BacksOff, TakesContendedFirst, ContextsEndOrDie}

-- the seat gives up waiting: it dies, which is EDEADLK, or it leaves the list since it was cancelled
abbrev pub GivesUp : ℕ → Step → Type 0
GivesUp s x = (n : ℕ) × ((x ≡ performs (Die s n)) ⊎ (x ≡ performs (Leave s n)))

-- ---- each deadlock is resolved

-- The seat stands in the list of a lock that one of these seats has.
abbrev pub IsStuck : State → List ℕ → ℕ → Type 0
IsStuck c seats s = (t : ℕ) × IsOneOf t seats × ((n : ℕ) × Stands (c.queue n) s × (c.owner n ≡ Taken t))

-- The seats are deadlocked: there are some, and each is stuck among them.
pub record AreDeadlocked (c : State) (seats : List ℕ) : Type 0 where
  pub some : (s : ℕ) × IsOneOf s seats
  pub stuck : (s : ℕ) → IsOneOf s seats → IsStuck c seats s

-- in the end one of these seats gives up waiting
abbrev pub IsResolved : (ℕ → Step) → ℕ → List ℕ → Type 0
IsResolved step i seats = InTheEnd i (λ j. (s : ℕ) × IsOneOf s seats × GivesUp s (step j))

-- These seats are scheduled while they wait. So others make the wakes that they owe these, and don't keep the guards of
-- their lists forever; nothing else is asked of others.
abbrev pub TheseGoOn : (ℕ → Scene) → (ℕ → Step) → List ℕ → Type 0
TheseGoOn scene step seats = (s : ℕ) → IsOneOf s seats → WaiterGoesOn scene step s

-- Whenever seats are deadlocked, one of them gives up waiting in the end, whatever other seats do.
abbrev pub NoDeadlockLasts : Type 0
NoDeadlockLasts = (scene : ℕ → Scene) (step : ℕ → Step) → IsEndlessRun scene step → (i : ℕ) (seats : List ℕ) →
    TheseGoOn scene step seats → AreDeadlocked (scene i).core seats → IsResolved step i seats

-- So each cycle of waits is broken by one of its members.
abbrev pub CyclesAreBroken : Type 0
CyclesAreBroken = (scene : ℕ → Scene) (step : ℕ → Step) → IsEndlessRun scene step → (i : ℕ) (seats : List ℕ) →
    TheseGoOn scene step seats → IsCycle (scene i).core seats → IsResolved step i seats

-- ---- the system makes progress

-- somebody inside a guard takes the lock, or a waiter gives up
abbrev pub TakesOrGivesUp : Step → Type 0
TakesOrGivesUp x = (s : ℕ) × (((n : ℕ) × (x ≡ performs (Take s n))) ⊎ GivesUp s x)

-- Whenever somebody waits, somebody takes a lock later or gives up waiting, if those who hold locks and wait for none
-- release them in the end or come to wait.
abbrev pub SomebodyGoesOn : Type 0
SomebodyGoesOn = (scene : ℕ → Scene) (step : ℕ → Step) → IsEndlessRun scene step → WaitersGoOn scene step →
    HoldersGoOn scene step → (i s n : ℕ) → Stands ((scene i).core.queue n) s → InTheEnd i (λ j. TakesOrGivesUp (step j))

-- the wait of the seat in the list of the lock ends: it takes the lock, or gives up
abbrev pub EndsWait : ℕ → ℕ → Step → Type 0
EndsWait s n x = (x ≡ performs (Take s n)) ⊎ ((x ≡ performs (Die s n)) ⊎ (x ≡ performs (Leave s n)))

-- some seat's wait ends by the step
pub record EndsSomeWait (c : State) (x : Step) : Type 0 where
  pub seat : ℕ
  pub lock : ℕ
  pub stands : Stands (c.queue lock) seat
  pub ends : EndsWait seat lock x

-- Whenever somebody waits, some wait ends later, if beside that each seat that is first in a list asks for the lock.
abbrev pub WaitsEnd : Type 0
WaitsEnd = (scene : ℕ → Scene) (step : ℕ → Step) → IsEndlessRun scene step → WaitersGoOn scene step →
    HoldersGoOn scene step → FirstsAsk scene step → (i s n : ℕ) → Stands ((scene i).core.queue n) s →
    InTheEnd i (λ j. EndsSomeWait (scene j).core (step j))

-- ---- not by deaths alone

-- somebody takes a lock, at once or inside its guard, or is cancelled
abbrev pub TakesOrIsCalledOff : Step → Type 0
TakesOrIsCalledOff x = (s : ℕ) × (n : ℕ) ×
    ((x ≡ performs (Fast s n)) ⊎ ((x ≡ performs (Take s n)) ⊎ (x ≡ performs (Leave s n))))

-- Whenever somebody waits, its own wait ends later, or somebody takes a lock or is cancelled: so nobody waits while
-- the others do nothing but die and try again, if each seat that has died releases all that it has before it wants a
-- lock again.
abbrev pub NoLivelock : Type 0
NoLivelock = (scene : ℕ → Scene) (step : ℕ → Step) → IsEndlessRun scene step → WaitersGoOn scene step →
    HoldersGoOn scene step → BacksOff scene step → (i s n : ℕ) → Stands ((scene i).core.queue n) s →
    InTheEnd i (λ j. EndsWait s n (step j) ⊎ TakesOrIsCalledOff (step j))

-- ---- who rests

-- A context that has no lock and waits for none rests from then on, if its seat wants no lock as long as it goes on,
-- whatever others do.
abbrev pub WhoWantsNoneRests : Type 0
WhoWantsNoneRests = (scene : ℕ → Scene) (step : ℕ → Step) → IsEndlessRun scene step → (s i : ℕ) →
    0 < (scene i).core.stamp s → OwnsNone (scene i).core s → InNoQueue (scene i).core s →
    ((j n : ℕ) → i ≤ j → (scene j).core.stamp s ≡ (scene i).core.stamp s → ¬ Wants s n (step j)) →
    RestsOn scene step s i

-- ---- the oldest is served

-- The oldest context of those that don't rest on, if it has no sign in Wound-Wait, is never signed and never dies, as long
-- as it goes on.
abbrev pub OldestNeverGivesWay : Type 0
OldestNeverGivesWay = (scene : ℕ → Scene) (step : ℕ → Step) → IsEndlessRun scene step → (i j s : ℕ) → i ≤ j →
    IsOldestActive scene step s i → ((scene i).core.kind ≡ WoundWait → (scene i).core.sign s ≡ 0) →
    (scene j).core.stamp s ≡ (scene i).core.stamp s →
    ((t : ℕ) → step j ≢ performs (Sign t s)) × ((n : ℕ) → step j ≢ performs (Die s n))

-- In Wound-Wait the oldest of those, if it has no sign, and has a lock already, gets each lock
-- that it waits for, unless it is cancelled: if each seat that has a lock releases it in the end, unless it waits
-- forever, and the first waiters ask.
abbrev pub OldestIsServed : Type 0
OldestIsServed = (scene : ℕ → Scene) (step : ℕ → Step) → IsEndlessRun scene step → WaitersGoOn scene step →
    HoldersRelease scene step → FirstsAsk scene step → (i s n : ℕ) → (scene i).core.kind ≡ WoundWait →
    IsOldestActive scene step s i → (scene i).core.sign s ≡ 0 → OwnsSome (scene i).core s →
    Stands ((scene i).core.queue n) s → InTheEnd i (λ j. (step j ≡ performs (Take s n)) ⊎ (step j ≡ performs (Leave s n)))

-- So it ends, or comes to rest, unless it is cancelled, if its program comes to an end, and it waits only while it owns
-- a lock.
abbrev pub OldestEnds : Type 0
OldestEnds = (scene : ℕ → Scene) (step : ℕ → Step) → IsEndlessRun scene step → WaitersGoOn scene step →
    HoldersRelease scene step → FirstsAsk scene step → (i s : ℕ) → (scene i).core.kind ≡ WoundWait →
    IsOldestActive scene step s i → (scene i).core.sign s ≡ 0 → ContextsEnd scene step s → WaitsOwning scene step s i →
    InTheEnd i (λ j. IsOver scene step s j ⊎ ((n : ℕ) × (step j ≡ performs (Leave s n))))

-- In Wait-Die each context gets each lock that it waits for, unless it dies or is cancelled: if programs come to an
-- end, the first waiters ask, and each seat that dies releases all that it has and then takes the contended lock first.
abbrev pub ContextsAreServed : Type 0
ContextsAreServed = (scene : ℕ → Scene) (step : ℕ → Step) → IsEndlessRun scene step → WaitersGoOn scene step →
    HoldersRelease scene step → ContextsEndOrDie scene step → FirstsAsk scene step → BacksOff scene step →
    TakesContendedFirst scene step → (i s n : ℕ) → (scene i).core.kind ≡ WaitDie → 0 < (scene i).core.stamp s →
    Stands ((scene i).core.queue n) s → InTheEnd i (λ j. EndsWait s n (step j))

-- The oldest of those that don't rest on, which never has to die there, gets each of them, unless it is cancelled.
abbrev pub OldestWaitDieIsServed : Type 0
OldestWaitDieIsServed = (scene : ℕ → Scene) (step : ℕ → Step) → IsEndlessRun scene step → WaitersGoOn scene step →
    HoldersRelease scene step → ContextsEndOrDie scene step → FirstsAsk scene step → BacksOff scene step →
    TakesContendedFirst scene step → (i s n : ℕ) → (scene i).core.kind ≡ WaitDie → IsOldestActive scene step s i →
    Stands ((scene i).core.queue n) s →
    InTheEnd i (λ j. (step j ≡ performs (Take s n)) ⊎ (step j ≡ performs (Leave s n)))

-- ---- what is there comes

-- a lock that is there for a waiter is taken in the end, by that waiter if it was handed to it
pub record DueIsTaken (scene : ℕ → Scene) (step : ℕ → Step) (i s n : ℕ) : Type 0 where
  pub taken : IsDue (scene i).core s n → InTheEnd i (λ j. (t : ℕ) × (step j ≡ performs (Take t n)))
  pub handed : (scene i).core.owner n ≡ Handed s → InTheEnd i (λ j. step j ≡ performs (Take s n))

-- Each lock that is there for somebody is taken in the end.
abbrev pub DueLocksAreTaken : Type 0
DueLocksAreTaken = (scene : ℕ → Scene) (step : ℕ → Step) → IsEndlessRun scene step → WaitersGoOn scene step →
    (i s n : ℕ) → DueIsTaken scene step i s n

-- In Wound-Wait a waiter that was wounded waits no more in the end.
abbrev pub WoundedWaitNoMore : Type 0
WoundedWaitNoMore = (scene : ℕ → Scene) (step : ℕ → Step) → IsEndlessRun scene step →
    (i s n : ℕ) → WaiterGoesOn scene step s → (scene i).core.kind ≡ WoundWait →
    Stands ((scene i).core.queue n) s → 0 < (scene i).core.sign s → InTheEnd i (λ j. EndsWait s n (step j))

-- ---- none of this speaks of nothing

-- the laws of the oldest speak of this seat, which waits for this lock at first
pub record IsTheOldest (scene : ℕ → Scene) (step : ℕ → Step) (seat lock : ℕ) : Type 0 where
  pub oldest : IsOldestActive scene step seat 0
  pub unsigned : (scene 0).core.sign seat ≡ 0
  pub owns : OwnsSome (scene 0).core seat
  pub waits : Stands ((scene 0).core.queue lock) seat

-- the context of one seat is older than that of the other, and never ends, but rests from the first scene on
pub record RestsForEver (scene : ℕ → Scene) (step : ℕ → Step) (rester seat : ℕ) : Type 0 where
  pub context : (i : ℕ) → (scene i).core.stamp rester ≡ (scene 0).core.stamp rester
  pub some : 0 < (scene 0).core.stamp rester
  pub older : (scene 0).core.stamp rester < (scene 0).core.stamp seat
  pub rests : RestsOn scene step rester 0

-- In this kind some endless run keeps all that is asked. In its first scene seats are deadlocked; one of them sleeps; seat
-- 0 has the oldest context that doesn't rest on, whose program comes to an end; and seat 2 has an older one, which never
-- ends.
pub record HasDeadlockedRun (kind : Kind) : Type 0 where
  pub scene : ℕ → Scene
  pub step : ℕ → Step
  pub of_kind : (scene 0).core.kind ≡ kind
  pub run : IsEndlessRun scene step
  pub waiters : WaitersGoOn scene step
  pub holders : HoldersGoOn scene step
  pub release : HoldersRelease scene step
  pub backs : BacksOff scene step
  pub contended : TakesContendedFirst scene step
  pub each_ends : ContextsEndOrDie scene step
  pub asks : FirstsAsk scene step
  pub seats : List ℕ
  pub deadlocked : AreDeadlocked (scene 0).core seats
  pub sleeper : (s : ℕ) × IsOneOf s seats × ((scene 0).phase s ≡ asleep)
  pub oldest : IsTheOldest scene step 0 1
  pub rester : RestsForEver scene step 2 0
  pub ends : ContextsEnd scene step 0
  pub owning : WaitsOwning scene step 0 0

-- There is such a run in each kind.
abbrev pub DeadlocksAreReached : Type 0
DeadlocksAreReached = (kind : Kind) → HasDeadlockedRun kind
