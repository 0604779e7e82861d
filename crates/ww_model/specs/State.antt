-- The core: the state of all seats and locks at one moment.
use Rattle.std.specs.Prelude.{ℕ, suc, zero, ◌≡◌, ◌≢◌, ◌<◌, ◌⊎◌, ◌==◌, ◌||◌, ◌+◌, ◌*◌, Bool, true, false, List, [], ◌∷◌, Option, Some, if◌then◌else◌}
use native.Mathlib.Decide.{ℕ_discrete}
use Rattle.ww_word.specs.declared.owner.Owner.{Owner}
use Rattle.ww_word.specs.Owner.{idle, handed_to}
use Rattle.ww_queue.specs.declared.kind.Kind.{Kind}
use Rattle.ww_queue.specs.declared.entry.Entry.{Entry}
use Rattle.ww_queue.specs.Queue.{StandsNot}
use Rattle.ww_queue.specs.Rules.{must_die, owed_signs}
use Rattle.ww_model.specs.declared.state.Holder.{Holder}
use Rattle.ww_model.specs.declared.state.Holder.TheVariants.{Nobody, Taken, Handed}

-- Seats and locks are numbers, and each component is a function of them. A stamp is 0 without a context, a sign 0 where
-- there is none, and a guard 0 with nobody inside, else the seat inside plus 1. A cancel that was set and one that was
-- heeded are 0 where there is none, else the seat that set it plus 1.
pub record State : Type 0 where
  pub kind : Kind
  pub locks : ℕ
  pub seats : ℕ
  pub drawn : ℕ
  pub commits : ℕ
  pub stamp : ℕ → ℕ
  pub sign : ℕ → ℕ
  pub owner : ℕ → Holder
  pub asked : ℕ → Bool
  pub queue : ℕ → List Entry
  pub guard : ℕ → ℕ
  pub cancel : ℕ → ℕ
  pub heeded : ℕ → ℕ

-- no context was begun and no lock taken yet
abbrev pub start : Kind → ℕ → ℕ → State
start kind locks seats = record {
  kind = kind;
  locks = locks;
  seats = seats;
  drawn = 0;
  commits = 0;
  stamp = λ _. 0;
  sign = λ _. 0;
  owner = λ _. Nobody;
  asked = λ _. false;
  queue = λ _. [];
  guard = λ _. 0;
  cancel = λ _. 0;
  heeded = λ _. 0;
}

-- ---- a function changed at one place

module _ {A : Type 0} where
  abbrev pub pick : {P : Type 0} → Dec P → A → A → A
  pick (yes _) a b = a
  pick (no _) a b = b

  -- the function, except this number, where it has that value
  unfoldable pub put : (ℕ → A) → ℕ → A → ℕ → A
  put f i a j = pick (ℕ_discrete j i) a (f j)

-- ---- searches of the locks

-- some number below the bound passes
abbrev pub any_below : ℕ → (ℕ → Bool) → Bool
any_below zero test = false
any_below (suc n) test = test n || any_below n test

-- the greatest number below the bound that passes, 0 if none does
abbrev pub last_below : ℕ → (ℕ → Bool) → ℕ
last_below zero test = 0
last_below (suc n) test = if test n then n else last_below n test

-- the seat has taken the lock
abbrev pub is_taken_by : ℕ → Holder → Bool
is_taken_by s Nobody = false
is_taken_by s (Taken t) = t == s
is_taken_by s (Handed t) = false

-- ---- the flags of an owner word: WAITERS, HANDOFF and PICKUP

abbrev pub waiting : List Entry → ℕ
waiting [] = 0
waiting (e ∷ es) = 1

abbrev pub one_if : Bool → ℕ
one_if true = 1
one_if false = 0

abbrev pub pickup : Holder → ℕ
pickup Nobody = 0
pickup (Taken s) = 0
pickup (Handed s) = 4

-- ---- terms, of a state

module _ (c : State) where
  -- the seat owns the lock
  abbrev pub Owns : ℕ → ℕ → Type 0
  Owns s n = c.owner n ≡ Taken s

  abbrev pub OwnsNone : ℕ → Type 0
  OwnsNone s = (n : ℕ) → c.owner n ≢ Taken s

  abbrev pub OwnsSome : ℕ → Type 0
  OwnsSome s = (n : ℕ) × (c.owner n ≡ Taken s)

  -- the lock has an owner other than the seat, which has taken it or to which it was handed
  abbrev pub HasOther : ℕ → ℕ → Type 0
  HasOther s n = (t : ℕ) × (t ≢ s) × ((c.owner n ≡ Taken t) ⊎ (c.owner n ≡ Handed t))

  -- the seat is inside the guard of the lock
  pub record Inside (s n : ℕ) : Type 0 where
    pub guard : c.guard n ≡ suc s
    pub lock : n < c.locks
    pub seat : s < c.seats

  abbrev pub InsideNone : ℕ → Type 0
  InsideNone s = (n : ℕ) → c.guard n ≢ suc s

  abbrev pub InNoQueue : ℕ → Type 0
  InNoQueue s = (n : ℕ) → StandsNot (c.queue n) s

  -- the seat is inside no guard and stands in no wait list
  pub record Away (s : ℕ) : Type 0 where
    pub seat : s < c.seats
    pub inside : InsideNone s
    pub queue : InNoQueue s

  -- A seat may want a lock if it has a context or owns no lock, and if its sign is 0 or it owns a lock. The first half:
  abbrev pub MayOwn : ℕ → Type 0
  MayOwn s = (0 < c.stamp s) ⊎ OwnsNone s

  -- the second half
  abbrev pub IsCalm : ℕ → Type 0
  IsCalm s = (c.sign s ≡ 0) ⊎ OwnsSome s

  -- the seat owns a lock
  abbrev pub owns_some : ℕ → Bool
  owns_some s = any_below c.locks (λ n. is_taken_by s (c.owner n))

  -- the seat as a waiter
  abbrev pub waiter_of : ℕ → Entry
  waiter_of s = record { seat = s; stamp = c.stamp s; holds = owns_some s }

  -- the owner of a lock, as decoded from its owner word, ignoring WAITERS and HANDOFF: only the seat, the stamp
  -- and PICKUP count
  abbrev pub owner_as : Holder → Owner
  owner_as Nobody = idle
  owner_as (Taken s) = record { seat = Some s; stamp = c.stamp s; flags = 0 }
  owner_as (Handed s) = handed_to s (c.stamp s)

  -- the owner word of a lock with this owner, that is asked to hand itself over or not, with this wait list
  abbrev pub word_from : Holder → Bool → List Entry → Owner
  word_from o asked q = record (owner_as o) { flags = waiting q + 2 * one_if asked + pickup o }

  -- the owner word of the lock
  abbrev pub word_of : ℕ → Owner
  word_of n = word_from (c.owner n) (c.asked n) (c.queue n)

  -- the stamp for which the seat has to die at the lock
  abbrev pub dies : ℕ → ℕ → Option ℕ
  dies s n = must_die c.kind (owner_as (c.owner n)) (c.queue n) s (c.sign s)

  -- whom the seat has to sign inside the guard of the lock, and with which stamp
  abbrev pub owes : ℕ → ℕ → List (ℕ × ℕ)
  owes s n = owed_signs c.kind (owner_as (c.owner n)) (c.queue n) s

  -- the lock in whose guard the seat is
  abbrev pub place_of : ℕ → ℕ
  place_of s = last_below c.locks (λ n. c.guard n == suc s)
