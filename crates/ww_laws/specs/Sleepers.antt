-- No wake-up is lost.
use Rattle.std.specs.Prelude.{ℕ, suc, ◌≡◌, ◌≢◌, ◌≤◌, ◌⊎◌, true, false, IsSome}
use Rattle.ww_queue.specs.declared.kind.Kind.{Kind}
use Rattle.ww_queue.specs.declared.kind.Kind.TheVariants.{WaitDie}
use Rattle.ww_queue.specs.Queue.{Stands}
use Rattle.ww_model.specs.declared.state.Holder.TheVariants.{Nobody, Taken, Handed}
use Rattle.ww_model.specs.State.{State, InsideNone, InNoQueue, OwnsSome, dies}
use Rattle.ww_model.specs.Snapshot.{IsFirst}
use Rattle.ww_model.specs.Waits.{IsCondemned}
use Rattle.ww_laws.specs.Scene.{Scene, acting, asleep, Step, wakes, rises, May, next, IsReached}

-- lock n is there for seat s: it was handed to it, or is free with the seat as its first waiter
abbrev pub IsDue : State → ℕ → ℕ → Type 0
IsDue c s n = (c.owner n ≡ Handed s) ⊎ ((c.owner n ≡ Nobody) × IsFirst (c.queue n) s)

module _ (w : Scene) where
  -- the seat was woken, or is to be by a seat that doesn't sleep
  abbrev pub IsAlerted : ℕ → Type 0
  IsAlerted s = (w.token s ≡ true) ⊎ ((t : ℕ) × (w.owes t s ≡ true) × (w.phase t ≢ asleep))

  -- it doesn't sleep, or not for long
  abbrev pub IsUp : ℕ → Type 0
  IsUp s = (w.phase s ≢ asleep) ⊎ IsAlerted s

  -- The seat has nothing to do but wait: it stands in the list of a lock, inside no guard; no lock is there for it;
  -- nobody has signed it, so it isn't condemned; in Wait-Die it needn't die there either, unless somebody is inside the guard
  -- of that lock, who has yet to tell it; and no cancel is pending that it would heed.
  pub record HasToWait (s : ℕ) : Type 0 where
    pub lock : ℕ
    pub stands : Stands (w.core.queue lock) s
    pub outside : InsideNone w.core s
    pub not_due : (n : ℕ) → ¬ IsDue w.core s n
    pub unsigned : w.core.sign s ≡ 0
    pub not_condemned : ¬ IsCondemned w.core s
    pub needs_not_die : w.core.kind ≡ WaitDie → w.core.guard lock ≡ 0 → ¬ IsSome (dies w.core s lock)
    pub uncancelled : w.heeds s ≡ true → w.core.cancel s ≡ 0

-- ---- at each moment

-- each seat that sleeps, and neither was woken nor is about to be, has to wait
abbrev pub NoWakeIsLost : Type 0
NoWakeIsLost = (w : Scene) → IsReached w → (s : ℕ) → w.phase s ≡ asleep → IsAlerted w s ⊎ HasToWait w s

-- each seat that is inside a guard acts: so nobody who spins for a guard waits for a sleeper
abbrev pub GuardsAreHeldAwake : Type 0
GuardsAreHeldAwake = (w : Scene) → IsReached w → (s n : ℕ) → w.core.guard n ≡ suc s → w.phase s ≡ acting

-- seat a waits at lock n for another seat b, which has taken the lock, or for which it is there
pub record Awaits (c : State) (a b n : ℕ) : Type 0 where
  pub stands : Stands (c.queue n) a
  pub owner : (c.owner n ≡ Taken b) ⊎ IsDue c b n
  pub other : a ≢ b

-- the seat is such, or awaits one whose waits lead to such a seat
pub data WaitsLeadTo (c : State) (IsSuch : ℕ → Type 0) : ℕ → Type 0 where
  is_such : (s : ℕ) → IsSuch s → WaitsLeadTo c IsSuch s
  awaits : (s t n : ℕ) → Awaits c s t n → WaitsLeadTo c IsSuch t → WaitsLeadTo c IsSuch s

-- each seat that sleeps waits, maybe through other sleepers, for somebody who is up
abbrev pub SleepersAwaitSomebodyUp : Type 0
SleepersAwaitSomebodyUp = (w : Scene) → IsReached w → (s : ℕ) → w.phase s ≡ asleep → WaitsLeadTo w.core (IsUp w) s

-- no seat was woken or has yet to wake another, and each seat that stands in a list sleeps
pub record IsStill (w : Scene) : Type 0 where
  pub no_token : (s : ℕ) → w.token s ≡ false
  pub paid : (s v : ℕ) → w.owes s v ≡ false
  pub waiters_sleep : (n s : ℕ) → Stands (w.core.queue n) s → w.phase s ≡ asleep

-- the seat owns a lock, and neither sleeps nor waits
pub record IsAwakeHolder (w : Scene) (s : ℕ) : Type 0 where
  pub owns : OwnsSome w.core s
  pub awake : w.phase s ≢ asleep
  pub no_waiter : InNoQueue w.core s

-- where nothing is under way, each seat that sleeps waits, maybe through others, for a holder that is awake
abbrev pub SleepersAwaitAHolder : Type 0
SleepersAwaitAHolder = (w : Scene) → IsReached w → IsStill w → (s : ℕ) → w.phase s ≡ asleep →
    WaitsLeadTo w.core (IsAwakeHolder w) s

-- ---- nobody sleeps forever in vain

-- an endless run of steps, with the scene before each
pub record IsEndlessRun (scene : ℕ → Scene) (step : ℕ → Step) : Type 0 where
  pub begins : IsReached (scene 0)
  pub may : (i : ℕ) → May (scene i) (step i)
  pub goes_on : (i : ℕ) → scene (suc i) ≡ next (scene i) (step i)

-- Each seat that has yet to wake another does so in the end, and each seat that sleeps with a token rises in the end.
-- Nothing is assumed about the order in which seats come to a guard, or about what they do with a lock.
pub record WakesArrive (scene : ℕ → Scene) (step : ℕ → Step) : Type 0 where
  pub made : (i s v : ℕ) → (scene i).owes s v ≡ true → (j : ℕ) × (i ≤ j) × (step j ≡ wakes s v)
  pub heard : (i s : ℕ) → (scene i).token s ≡ true → (scene i).phase s ≡ asleep →
      (j : ℕ) × (i ≤ j) × (step j ≡ rises s)

-- each seat that sleeps without having to is awake later
abbrev pub NobodySleepsInVain : Type 0
NobodySleepsInVain = (scene : ℕ → Scene) (step : ℕ → Step) → IsEndlessRun scene step → WakesArrive scene step →
    (i s : ℕ) → (scene i).phase s ≡ asleep → ¬ HasToWait (scene i) s →
    (j : ℕ) × (i ≤ j) × ((scene j).phase s ≢ asleep)

-- each seat that sleeps forever has to wait all the time, in the list of one lock
abbrev pub SleepForEverIsAWait : Type 0
SleepForEverIsAWait = (scene : ℕ → Scene) (step : ℕ → Step) → IsEndlessRun scene step → WakesArrive scene step →
    (i s : ℕ) → ((j : ℕ) → i ≤ j → (scene j).phase s ≡ asleep) →
    (n : ℕ) × ((j : ℕ) → i ≤ j → HasToWait (scene j) s × Stands ((scene j).core.queue n) s)

-- ---- none of this speaks of nothing

-- a reached scene of the kind is like this
pub record IsReachedInKind (kind : Kind) (P : Scene → Type 0) : Type 0 where
  pub scene : Scene
  pub of_kind : scene.core.kind ≡ kind
  pub reached : IsReached scene
  pub holds : P scene

-- somebody sleeps, in a call that heeds cancels, is not alerted and has to wait
pub record HasSleeper (w : Scene) : Type 0 where
  pub seat : ℕ
  pub sleeps : w.phase seat ≡ asleep
  pub heeds : w.heeds seat ≡ true
  pub not_alerted : ¬ IsAlerted w seat
  pub has_to_wait : HasToWait w seat

-- a lock is there for somebody who sleeps and has no token: another has yet to wake it
pub record HasOwedSleeper (w : Scene) : Type 0 where
  pub seat : ℕ
  pub lock : ℕ
  pub sleeps : w.phase seat ≡ asleep
  pub no_token : w.token seat ≡ false
  pub due : IsDue w.core seat lock

abbrev pub SleepersAreReached : Type 0
SleepersAreReached = (kind : Kind) → IsReachedInKind kind HasSleeper × IsReachedInKind kind HasOwedSleeper

-- an endless run of the kind, in which wakes arrive, and a seat are like this
pub record IsEndlessInKind (kind : Kind) (P : (ℕ → Scene) → ℕ → Type 0) : Type 0 where
  pub scene : ℕ → Scene
  pub step : ℕ → Step
  pub seat : ℕ
  pub of_kind : (scene 0).core.kind ≡ kind
  pub run : IsEndlessRun scene step
  pub arrive : WakesArrive scene step
  pub holds : P scene seat

-- the seat sleeps at each moment, in a call that heeds cancels
pub record SleepsForEver (scene : ℕ → Scene) (s : ℕ) : Type 0 where
  pub sleeps : (i : ℕ) → (scene i).phase s ≡ asleep
  pub heeds : (i : ℕ) → (scene i).heeds s ≡ true

-- the seat sleeps at the first moment without having to
pub record SleepsInVain (scene : ℕ → Scene) (s : ℕ) : Type 0 where
  pub sleeps : (scene 0).phase s ≡ asleep
  pub needs_not : ¬ HasToWait (scene 0) s

-- so what is said of endless runs, and of who sleeps in them, is said of some
abbrev pub EndlessRunsHaveSleepers : Type 0
EndlessRunsHaveSleepers = (kind : Kind) → IsEndlessInKind kind SleepsForEver × IsEndlessInKind kind SleepsInVain
