-- The locks with their sleepers: the core, and beside it who sleeps, who was woken, and who has yet to wake whom.
use Rattle.std.specs.Prelude.{ℕ, ◌≡◌, ◌≢◌, ◌<◌, ◌==◌, Bool, true, false, List, [], ◌∷◌, Option, Some, None, if◌then◌else◌}
use Rattle.ww_queue.specs.declared.kind.Kind.{Kind}
use Rattle.ww_queue.specs.declared.kind.Kind.TheVariants.{WoundWait}
use Rattle.ww_queue.specs.declared.entry.Entry.{Entry}
use Rattle.ww_queue.specs.Queue.{Stands}
use Rattle.ww_model.specs.declared.event.Event.{Event}
use Rattle.ww_model.specs.declared.event.Event.TheVariants.{Sign, Give, Unguard, Cancel}
use Rattle.ww_model.specs.State.{State, start, put, OwnsSome}
use Rattle.ww_model.specs.Event.{Possible, after, actor}

-- A seat acts; or it has left the guard of a lock in whose wait list it stands, in order to sleep; or it sleeps.
pub data Phase : Type 0 where
  acting : Phase
  going_to_sleep : Phase
  asleep : Phase

-- Beside the core, of each seat: its phase; whether it has a token, which a seat leaves that wakes it, and which ends
-- its sleep; which seats it has yet to wake; whether it has found no sign since it last rose or performed an event;
-- whether it has found no cancel since it last rose or cancelled; and whether the call in which it last went to sleep
-- heeds cancels.
pub record Scene : Type 0 where
  pub core : State
  pub phase : ℕ → Phase
  pub token : ℕ → Bool
  pub owes : ℕ → ℕ → Bool
  pub found_no_sign : ℕ → Bool
  pub found_no_cancel : ℕ → Bool
  pub heeds : ℕ → Bool

-- everybody acts, and nobody was woken or is to be
abbrev pub first_scene : Kind → ℕ → ℕ → Scene
first_scene kind locks seats = record {
  core = start kind locks seats;
  phase = λ _. acting;
  token = λ _. false;
  owes = λ _ _. false;
  found_no_sign = λ _. false;
  found_no_cancel = λ _. false;
  heeds = λ _. false;
}

-- ---- which seats are to be woken

-- the seat of the first waiter
abbrev pub first_of : List Entry → Option ℕ
first_of [] = None
first_of (e ∷ es) = Some e.seat

-- v, unless it is s itself
abbrev pub another : ℕ → ℕ → Option ℕ
another s v = if v == s then None else Some v

-- whom a seat has to wake for its event: whom it signs, the first waiter of the lock that it releases, and whose
-- cancel it sets
abbrev pub woken_by : State → Event → Option ℕ
woken_by c (Sign s v) = another s v
woken_by c (Give s n) = first_of (c.queue n)
woken_by c (Cancel s v) = another s v
woken_by c _ = None

-- the debts, which say whom each seat has yet to wake, with that of s to v as given
abbrev pub put_debt : (ℕ → ℕ → Bool) → ℕ → ℕ → Bool → ℕ → ℕ → Bool
put_debt owes s v is = put owes s (put (owes s) v is)

-- the debts once s has to wake this seat too, if there is one
abbrev pub owing : (ℕ → ℕ → Bool) → ℕ → Option ℕ → ℕ → ℕ → Bool
owing owes s None = owes
owing owes s (Some v) = put_debt owes s v true

-- ---- the steps

-- A seat performs an event of the core. It leaves a guard in order to sleep, in a call that heeds cancels or not. It
-- looks at its sign, or at its cancel, and finds none. It wakes another. It falls asleep. It rises, to look again.
pub data Step : Type 0 where
  performs : (e : Event) → Step
  leaves_to_sleep : (s n : ℕ) (heeds : Bool) → Step
  finds_no_sign : (s : ℕ) → Step
  finds_no_cancel : (s : ℕ) → Step
  wakes : (s v : ℕ) → Step
  falls_asleep : (s : ℕ) → Step
  rises : (s : ℕ) → Step

-- in Wound-Wait a context that owns a lock can be wounded
pub record CanBeWounded (c : State) (s : ℕ) : Type 0 where
  pub kind : c.kind ≡ WoundWait
  pub context : 0 < c.stamp s
  pub owns : OwnsSome c s

-- which seats have found no cancel, after this event: one that cancels may have cancelled itself, and has to look again
abbrev pub uncancelled_after : (ℕ → Bool) → Event → ℕ → Bool
uncancelled_after found (Cancel s v) = put found s false
uncancelled_after found _ = found

module _ (w : Scene) where
  pub record MayPerform (e : Event) : Type 0 where
    pub acts : w.phase (actor e) ≡ acting
    pub possible : Possible w.core e

  -- a waiter goes to sleep only if it has just found no sign, where it can be wounded, and has found no cancel since it
  -- last rose, where its call heeds cancels
  pub record MayLeaveToSleep (s n : ℕ) (heeds : Bool) : Type 0 where
    pub acts : w.phase s ≡ acting
    pub possible : Possible w.core (Unguard s n)
    pub waits : Stands (w.core.queue n) s
    pub unsigned : CanBeWounded w.core s → w.found_no_sign s ≡ true
    pub uncancelled : heeds ≡ true → w.found_no_cancel s ≡ true

  -- it has woken whom it had to wake
  pub record MayFallAsleep (s : ℕ) : Type 0 where
    pub ready : w.phase s ≡ going_to_sleep
    pub paid : (v : ℕ) → w.owes s v ≡ false

  -- Anybody may be woken, also by a seat that need not; and a seat may rise without a token, by chance.
  abbrev pub May : Step → Type 0
  May (performs e) = MayPerform e
  May (leaves_to_sleep s n heeds) = MayLeaveToSleep s n heeds
  May (finds_no_sign s) = (w.phase s ≡ acting) × (w.core.sign s ≡ 0)
  May (finds_no_cancel s) = (w.phase s ≡ acting) × (w.core.cancel s ≡ 0)
  May (wakes s v) = w.phase s ≢ asleep
  May (falls_asleep s) = MayFallAsleep s
  May (rises s) = w.phase s ≢ acting

  abbrev pub next : Step → Scene
  next (performs e) = record w {
    core = after w.core e;
    owes = owing w.owes (actor e) (woken_by w.core e);
    found_no_sign = put w.found_no_sign (actor e) false;
    found_no_cancel = uncancelled_after w.found_no_cancel e;
  }
  next (leaves_to_sleep s n heeds) = record w {
    core = after w.core (Unguard s n);
    phase = put w.phase s going_to_sleep;
    heeds = put w.heeds s heeds;
  }
  next (finds_no_sign s) = record w { found_no_sign = put w.found_no_sign s true }
  next (finds_no_cancel s) = record w { found_no_cancel = put w.found_no_cancel s true }
  next (wakes s v) = record w { token = put w.token v true; owes = put_debt w.owes s v false }
  next (falls_asleep s) = record w { phase = put w.phase s asleep }
  next (rises s) = record w {
    phase = put w.phase s acting;
    token = put w.token s false;
    found_no_sign = put w.found_no_sign s false;
    found_no_cancel = put w.found_no_cancel s false;
  }

-- a scene that some steps lead to from a start
pub data IsReached : Scene → Type 0 where
  begins : (kind : Kind) (locks seats : ℕ) → IsReached (first_scene kind locks seats)
  goes_on : (w : Scene) (step : Step) → IsReached w → May w step → IsReached (next w step)
