-- The theorem: what holds in every interleaving of the events, of both kinds.
use Rattle.std.specs.Prelude.{ℕ, ◌≡◌, ◌+◌, List}
use Rattle.ww_queue.specs.declared.kind.Kind.{Kind}
use Rattle.ww_queue.specs.Queue.{Has, Stands}
use Rattle.ww_model.specs.declared.event.Event.{Event}
use Rattle.ww_model.specs.declared.event.Event.TheVariants.{Begin, Clear, Fast, FastGive, Guard, Join, Sign, Take, Ask, Give, Die, Unguard, Commit, End, Cancel, Heed, Leave}
use Rattle.ww_model.specs.declared.event.Answer.TheVariants.{Deadlk}
use Rattle.ww_model.specs.State.{State, start, HasOther, InNoQueue}
use Rattle.ww_model.specs.Event.{Possible, answer}
use Rattle.ww_model.specs.Lawful.{IsLawful}
use Rattle.ww_model.specs.Run.{state_after, IsRun, Reached}
use Rattle.ww_model.specs.Waits.{IsCycle, AreContexts, IsOneOf, IsRing, IsCondemned}
use Rattle.ww_model.specs.Met.{DeadlkIsMet}
use Rattle.ww_model.specs.Interrupts.{cancels_in, interrupts_in, one_of}
use Rattle.ww_model.specs.Emptied.{WindsUp, LeadsBy, IsEmptied}
use Rattle.ww_model.specs.Oldest.{IsOldest, IsOldestUnsigned, GoesOn, ComesToOwn, JoinsAndComesToOwn}

-- ---- nobody deadlocks unnoticed

-- every ring of a reached state has a condemned member
abbrev pub RingsAreCondemned : Type 0
RingsAreCondemned = (c : State) → Reached c → (ring : List ℕ) → IsRing c ring →
    (a : ℕ) × IsOneOf a ring × IsCondemned c a

-- the same of every lawful state and every cycle of waits, in which a seat may come more than once
abbrev pub CyclesAreCondemned : Type 0
CyclesAreCondemned = (c : State) → IsLawful c → (seats : List ℕ) → IsCycle c seats →
    (a : ℕ) × IsOneOf a seats × IsCondemned c a

-- no seat without a context stands in a cycle of waits of a lawful state
abbrev pub CyclesAreOfContexts : Type 0
CyclesAreOfContexts = (c : State) → IsLawful c → (seats : List ℕ) → IsCycle c seats → AreContexts c seats

-- every reached state is lawful
abbrev pub ReachedIsLawful : Type 0
ReachedIsLawful = (c : State) → Reached c → IsLawful c

-- ---- who backs off had to

-- The event is the death of a waiter that holds locks, and met the older context whose stamp it gets.
pub record IsMetDeath (c : State) (run : Reached c) (e : Event) (k : ℕ) : Type 0 where
  pub seat : ℕ
  pub lock : ℕ
  pub event : e ≡ Die seat lock
  pub met : DeadlkIsMet c run seat lock k

-- each EDEADLK, in whatever run, by whatever event, is such a death
abbrev pub DeadlkWasMet : Type 0
DeadlkWasMet = (c : State) (run : Reached c) (e : Event) (k : ℕ) → Possible c e → answer c e ≡ Deadlk k →
    IsMetDeath c run e k

-- ---- the oldest never backs off

-- The oldest context of all, if in Wound-Wait it has no sign, goes on as the oldest whatever happens, until it ends: it
-- is never signed and never told to back off. It may be interrupted.
abbrev pub OldestNeverDies : Type 0
OldestNeverDies = (c : State) → IsLawful c → (s : ℕ) → IsOldestUnsigned c s →
    (events : List Event) → IsRun c events → ¬ Has events (End s) → GoesOn c (state_after c events) s

-- Wherever the oldest context waits and has heeded no cancel, the seats in its way can be made to give way: some run
-- leads to it owning the lock, in which it neither dies nor is interrupted nor releases anything, and nobody begins
-- anything new.
abbrev pub OldestCanTake : Type 0
OldestCanTake = (c : State) → Reached c → (s n : ℕ) → IsOldest c s → Stands (c.queue n) s → c.heeded s ≡ 0 →
    ComesToOwn c s n

-- the same where it waits nowhere and wants a lock of another, with one Join, its own
abbrev pub OldestCanJoinAndTake : Type 0
OldestCanJoinAndTake = (c : State) → Reached c → (s n : ℕ) → IsOldest c s → InNoQueue c s → HasOther c s n →
    JoinsAndComesToOwn c s n

-- ---- nobody is stuck for good

-- from every reached state some run that winds up leads to one in which everything is free: a way out exists
abbrev pub CanBeEmptied : Type 0
CanBeEmptied = (c : State) → Reached c → LeadsBy WindsUp c IsEmptied

-- ---- nobody is interrupted but by a cancel

-- Each cancel that a seat set for another was answered by one interruption that names it, is pending, or is heeded and
-- not yet answered.
abbrev pub CancelsAreCounted : Type 0
CancelsAreCounted = (kind : Kind) (locks seats : ℕ) (events : List Event) → IsRun (start kind locks seats) events →
    (from v : ℕ) → let c = state_after (start kind locks seats) events in
    cancels_in from v events
    ≡ interrupts_in from v (start kind locks seats) events + (one_of from v (c.cancel v) + one_of from v (c.heeded v))

-- ---- none of this speaks of nothing

-- a reached state of the kind is like this
pub record IsReachedSomewhere (kind : Kind) (P : State → Type 0) : Type 0 where
  pub state : State
  pub of_kind : state.kind ≡ kind
  pub reached : Reached state
  pub holds : P state

-- in each kind some reached state has a ring
abbrev pub RingsAreReached : Type 0
RingsAreReached = (kind : Kind) → IsReachedSomewhere kind (λ c. (ring : List ℕ) × IsRing c ring)

abbrev pub Happens : Kind → Event → Type 0
Happens kind e = IsReachedSomewhere kind (λ c. Possible c e)

-- each of the seventeen events, of some seat and lock, is possible in some reached state of the kind
pub record AllHappen (kind : Kind) : Type 0 where
  pub begins : (s : ℕ) × Happens kind (Begin s)
  pub clears : (s : ℕ) × Happens kind (Clear s)
  pub fast : (s : ℕ) × (n : ℕ) × Happens kind (Fast s n)
  pub fast_gives : (s : ℕ) × (n : ℕ) × Happens kind (FastGive s n)
  pub guards : (s : ℕ) × (n : ℕ) × Happens kind (Guard s n)
  pub joins : (s : ℕ) × (n : ℕ) × Happens kind (Join s n)
  pub signs : (s : ℕ) × (v : ℕ) × Happens kind (Sign s v)
  pub takes : (s : ℕ) × (n : ℕ) × Happens kind (Take s n)
  pub asks : (s : ℕ) × (n : ℕ) × Happens kind (Ask s n)
  pub gives : (s : ℕ) × (n : ℕ) × Happens kind (Give s n)
  pub dies : (s : ℕ) × (n : ℕ) × Happens kind (Die s n)
  pub leaves : (s : ℕ) × (n : ℕ) × Happens kind (Unguard s n)
  pub commits : (s : ℕ) × Happens kind (Commit s)
  pub ends : (s : ℕ) × Happens kind (End s)
  pub cancels : (s : ℕ) × (v : ℕ) × Happens kind (Cancel s v)
  pub heeds : (s : ℕ) × (n : ℕ) × Happens kind (Heed s n)
  pub is_interrupted : (s : ℕ) × (n : ℕ) × Happens kind (Leave s n)

abbrev pub EventsHappen : Type 0
EventsHappen = (kind : Kind) → AllHappen kind
