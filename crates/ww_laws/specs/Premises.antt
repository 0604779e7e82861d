-- What is asked of an endless run of the scene: that threads go on.
use Rattle.std.specs.Prelude.{ℕ, suc, ◌≡◌, ◌≢◌, ◌<◌, ◌≤◌, ◌⊎◌, Bool, true}
use Rattle.ww_queue.specs.Queue.{Stands, StandsNot}
use Rattle.ww_model.specs.declared.state.Holder.TheVariants.{Taken, Handed}
use Rattle.ww_model.specs.declared.event.Event.TheVariants.{Fast, Guard, Join, Take, Die, Unguard, End, Leave}
use Rattle.ww_model.specs.State.{OwnsNone, OwnsSome, InNoQueue}
use Rattle.ww_model.specs.Snapshot.{IsFirst}
use Rattle.ww_laws.specs.Scene.{Scene, acting, going_to_sleep, asleep, Step, performs, leaves_to_sleep, wakes, rises}

-- at some time from i on
abbrev pub InTheEnd : ℕ → (ℕ → Type 0) → Type 0
InTheEnd i P = (j : ℕ) × (i ≤ j) × P j

-- the seat wants the lock: it takes it at once, joins its list, or takes it inside its guard
abbrev pub Wants : ℕ → ℕ → Step → Type 0
Wants s n x = (x ≡ performs (Fast s n)) ⊎ ((x ≡ performs (Join s n)) ⊎ (x ≡ performs (Take s n)))

module _ (scene : ℕ → Scene) (step : ℕ → Step) where
  -- The seat is scheduled while it waits. Each wake that it is owed is made in the end, and it rises in the end where
  -- it sleeps with a token. Where it is going to sleep it is asleep, or acts again, later; where it acts it is inside
  -- its guard later; and where it is inside the guard it is outside of it later, or waits no more.
  pub record IsScheduled (s : ℕ) : Type 0 where
    pub made : (i t : ℕ) → (scene i).owes t s ≡ true → InTheEnd i (λ j. step j ≡ wakes t s)
    pub heard : (i : ℕ) → (scene i).token s ≡ true → (scene i).phase s ≡ asleep → InTheEnd i (λ j. step j ≡ rises s)
    pub settled : (i : ℕ) → (scene i).phase s ≡ going_to_sleep → InTheEnd i (λ j. (scene j).phase s ≢ going_to_sleep)
    pub looks : (i n : ℕ) → Stands ((scene i).core.queue n) s → (scene i).phase s ≡ acting →
        InTheEnd i (λ j. (scene j).core.guard n ≡ suc s)
    pub leaves : (i n : ℕ) → Stands ((scene i).core.queue n) s → (scene i).core.guard n ≡ suc s →
        InTheEnd i (λ j. ((scene j).core.guard n ≢ suc s) ⊎ StandsNot ((scene j).core.queue n) s)

  -- As a waiter the seat leaves a guard only in order to sleep, which the scene lets it do, where it can be wounded,
  -- only if it has just found no sign.
  abbrev pub LeavesToSleep : ℕ → Type 0
  LeavesToSleep s = (i n : ℕ) → step i ≡ performs (Unguard s n) → StandsNot ((scene i).core.queue n) s

  -- It goes on while it waits.
  pub record WaiterGoesOn (s : ℕ) : Type 0 where
    pub scheduled : IsScheduled s
    pub sleeps : LeavesToSleep s

  -- all seats do
  abbrev pub WaitersGoOn : Type 0
  WaitersGoOn = (s : ℕ) → WaiterGoesOn s

  -- Each seat that has taken a lock, and waits for none, has it no more later, or stands in a list.
  abbrev pub HoldersGoOn : Type 0
  HoldersGoOn = (i s n : ℕ) → (scene i).core.owner n ≡ Taken s → InNoQueue (scene i).core s →
      InTheEnd i (λ j. ((scene j).core.owner n ≢ Taken s) ⊎ ((m : ℕ) × Stands ((scene j).core.queue m) s))

  -- from then on the seat stands in the list of one lock
  abbrev pub WaitsForEver : ℕ → ℕ → Type 0
  WaitsForEver s j = (m : ℕ) × ((k : ℕ) → j ≤ k → Stands ((scene k).core.queue m) s)

  -- The same of programs that come to an end: each seat that has taken a lock has it no more later, unless it comes to
  -- wait forever.
  abbrev pub HoldersRelease : Type 0
  HoldersRelease = (i s n : ℕ) → (scene i).core.owner n ≡ Taken s →
      InTheEnd i (λ j. ((scene j).core.owner n ≢ Taken s) ⊎ WaitsForEver s j)

  -- From i on the context of the seat rests: as long as it goes on, which may be forever, the seat owns no lock and
  -- waits for none.
  abbrev pub RestsOn : ℕ → ℕ → Type 0
  RestsOn s i = (j : ℕ) → i ≤ j → (scene j).core.stamp s ≡ (scene i).core.stamp s →
      OwnsNone (scene j).core s × InNoQueue (scene j).core s

  -- The seat has a context at i, and each older one rests from then on: so of those that don't it is the oldest.
  pub record IsOldestActive (s i : ℕ) : Type 0 where
    pub context : 0 < (scene i).core.stamp s
    pub older : (t : ℕ) → 0 < (scene i).core.stamp t → (scene i).core.stamp t < (scene i).core.stamp s → RestsOn t i

  -- the context of the seat is over: it ends, or rests from then on
  abbrev pub IsOver : ℕ → ℕ → Type 0
  IsOver s j = (step j ≡ performs (End s)) ⊎ RestsOn s j

  -- The program of the seat comes to an end: a context of it is over later, unless it comes to wait forever, dies, or
  -- is cancelled.
  abbrev pub ContextsEnd : ℕ → Type 0
  ContextsEnd s = (i : ℕ) → 0 < (scene i).core.stamp s → InTheEnd i (λ j. IsOver s j ⊎
      (WaitsForEver s j ⊎ ((m : ℕ) × ((step j ≡ performs (Die s m)) ⊎ (step j ≡ performs (Leave s m))))))

  -- From i on the seat waits only while it owns a lock.
  abbrev pub WaitsOwning : ℕ → ℕ → Type 0
  WaitsOwning s i = (j n : ℕ) → i ≤ j → Stands ((scene j).core.queue n) s → OwnsSome (scene j).core s

  -- HANDOFF: a waiter that has looked again, and is the first in the list then, goes to sleep only if it has asked for
  -- the lock, or the lock is handed to somebody. It looks again if it stood in the list when it went inside the guard.
  abbrev pub FirstsAsk : Type 0
  FirstsAsk = (i j s n : ℕ) (heeds : Bool) → i < j → step i ≡ performs (Guard s n) →
      Stands ((scene i).core.queue n) s → ((k : ℕ) → i < k → k ≤ j → (scene k).core.guard n ≡ suc s) →
      step j ≡ leaves_to_sleep s n heeds → IsFirst ((scene j).core.queue n) s →
      ((scene j).core.asked n ≡ true) ⊎ ((t : ℕ) × ((scene j).core.owner n ≡ Handed t))

  -- Each seat that has died wants a lock again only once it has owned none.
  abbrev pub BacksOff : Type 0
  BacksOff = (i j s m n : ℕ) → i < j → step i ≡ performs (Die s m) → Wants s n (step j) →
      (k : ℕ) × (i < k) × (k ≤ j) × OwnsNone (scene k).core s

  -- The slow path: each seat that has died at a lock wants no other one in that context before it has taken this one.
  abbrev pub TakesContendedFirst : Type 0
  TakesContendedFirst = (i j s m n : ℕ) → i < j → step i ≡ performs (Die s m) → Wants s n (step j) →
      ((k : ℕ) → i < k → k ≤ j →
      ((scene k).core.owner m ≢ Taken s) × ((scene k).core.stamp s ≡ (scene i).core.stamp s)) → n ≡ m

  -- Programs come to an end, also where they are cancelled: each context is over later, unless it comes to wait
  -- forever, or dies.
  abbrev pub ContextsEndOrDie : Type 0
  ContextsEndOrDie = (i s : ℕ) → 0 < (scene i).core.stamp s → InTheEnd i (λ j. IsOver s j ⊎
      (WaitsForEver s j ⊎ ((m : ℕ) × (step j ≡ performs (Die s m)))))
