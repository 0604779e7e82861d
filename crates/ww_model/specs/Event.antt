-- The events: when each is possible, the state after it, and what it answers.
use Rattle.std.specs.Prelude.{ℕ, suc, ◌≡◌, ◌≢◌, ◌<◌, ◌+◌, ◌-◌, ◌^◌, ◌⊎◌, ◌==◌, Bool, true, false, List, [], ◌∷◌, Option, None, IsSome, unwrap_or, option_map, find}
use Rattle.ww_queue.specs.declared.kind.Kind.TheVariants.{WaitDie}
use Rattle.ww_queue.specs.declared.entry.Entry.{Entry}
use Rattle.ww_queue.specs.Queue.{Has, Stands, StandsNot, joined, left}
use Rattle.ww_model.specs.declared.state.Holder.{Holder}
use Rattle.ww_model.specs.declared.state.Holder.TheVariants as holder
use Rattle.ww_model.specs.declared.event.Event.{Event}
use Rattle.ww_model.specs.declared.event.Event.TheVariants.{Begin, Clear, Fast, FastGive, Guard, Join, Sign, Take, Ask, Give, Die, Unguard, Commit, End, Cancel, Heed, Leave}
use Rattle.ww_model.specs.declared.event.Answer.{Answer}
use Rattle.ww_model.specs.declared.event.Answer.TheVariants.{Stamp, Done, Locked, Met, Handed, Free, Deadlk, Place, Interrupted}
use Rattle.ww_model.specs.State.{State, put, Owns, OwnsNone, OwnsSome, HasOther, Inside, InsideNone, InNoQueue, Away, MayOwn, IsCalm, waiter_of, dies, owes, place_of}

-- the seat whose event it is
abbrev pub actor : Event → ℕ
actor (Begin s) = s
actor (Clear s) = s
actor (Fast s n) = s
actor (FastGive s n) = s
actor (Guard s n) = s
actor (Join s n) = s
actor (Sign s v) = s
actor (Take s n) = s
actor (Ask s n) = s
actor (Give s n) = s
actor (Die s n) = s
actor (Unguard s n) = s
actor (Commit s) = s
actor (End s) = s
actor (Cancel s v) = s
actor (Heed s n) = s
actor (Leave s n) = s

-- the stamp that is owed to a seat
abbrev pub owed_to : ℕ → List (ℕ × ℕ) → Option ℕ
owed_to v pairs = option_map (λ pair. pair.1) (find (λ pair. pair.0 == v) pairs)

-- who owns the lock once it is released: the first waiter, if it is asked to hand the lock over
abbrev pub given_to : Bool → List Entry → Holder
given_to true (e ∷ es) = holder.Handed e.seat
given_to _ _ = holder.Nobody

-- whether it is still asked, once a waiter has left this list
abbrev pub still_asked : List Entry → Bool → Bool
still_asked [] asked = false
still_asked (e ∷ es) asked = asked

-- how a lock was released
abbrev pub giving : Holder → Answer
giving holder.Nobody = Free
giving (holder.Taken s) = Free
giving (holder.Handed s) = Handed s

module _ (c : State) where
  -- ---- what an event asks of stamps, owners, wait lists and guards

  pub record CanBegin (s : ℕ) : Type 0 where
    pub away : Away c s
    pub no_context : c.stamp s ≡ 0
    pub owns_none : OwnsNone c s
    pub stamps_left : c.drawn < 2 ^ 56 - 1

  -- the owner word of the lock is 0
  pub record IsIdle (n : ℕ) : Type 0 where
    pub lock : n < c.locks
    pub free : c.owner n ≡ holder.Nobody
    pub empty : c.queue n ≡ []
    pub not_asked : c.asked n ≡ false

  pub record CanFast (s n : ℕ) : Type 0 where
    pub away : Away c s
    pub may_own : MayOwn c s
    pub idle : IsIdle n

  pub record CanFastGive (s n : ℕ) : Type 0 where
    pub away : Away c s
    pub lock : n < c.locks
    pub owns : Owns c s n
    pub empty : c.queue n ≡ []
    pub not_asked : c.asked n ≡ false

  pub record CanGuard (s n : ℕ) : Type 0 where
    pub seat : s < c.seats
    pub lock : n < c.locks
    pub inside_none : InsideNone c s
    pub free : c.guard n ≡ 0
    pub why : (Owns c s n × InNoQueue c s) ⊎
        (Stands (c.queue n) s ⊎ (InNoQueue c s × (c.owner n ≢ holder.Taken s) × MayOwn c s))

  pub record CanJoin (s n : ℕ) : Type 0 where
    pub inside : Inside c s n
    pub not_waiting : StandsNot (c.queue n) s
    pub may_own : MayOwn c s
    pub other : HasOther c s n

  pub record CanTake (s n : ℕ) : Type 0 where
    pub inside : Inside c s n
    pub may_own : MayOwn c s
    pub free : (c.owner n ≡ holder.Nobody) ⊎ (c.owner n ≡ holder.Handed s)

  pub record CanAsk (s n : ℕ) : Type 0 where
    pub inside : Inside c s n
    pub first : (e : Entry) × (es : List Entry) × (c.queue n ≡ e ∷ es) × (e.seat ≡ s)
    pub other : (t : ℕ) × (t ≢ s) × Owns c t n
    pub not_asked : c.asked n ≡ false

  -- where it is asked to hand the lock over, somebody waits
  pub record CanGive (s n : ℕ) : Type 0 where
    pub inside : Inside c s n
    pub owns : Owns c s n
    pub waiter : c.asked n ≡ true → c.queue n ≢ []

  pub record CanDie (s n : ℕ) : Type 0 where
    pub inside : Inside c s n
    pub waits : Stands (c.queue n) s
    pub other : HasOther c s n
    pub unheeded : c.heeded s ≡ 0

  pub record CanUnguard (s n : ℕ) : Type 0 where
    pub inside : Inside c s n
    pub contended : Stands (c.queue n) s → HasOther c s n
    pub unheeded : c.heeded s ≡ 0

  pub record CanCommit (s : ℕ) : Type 0 where
    pub away : Away c s
    pub owns_some : OwnsSome c s
    pub places_left : c.commits < 2 ^ 64 - 1

  pub record CanEnd (s : ℕ) : Type 0 where
    pub away : Away c s
    pub context : 0 < c.stamp s
    pub owns_none : OwnsNone c s

  -- no cancel of v is pending, which may be anywhere, and s itself
  pub record CanCancel (s v : ℕ) : Type 0 where
    pub away : Away c s
    pub seat : v < c.seats
    pub none : c.cancel v ≡ 0

  pub record CanHeed (s n : ℕ) : Type 0 where
    pub inside : Inside c s n
    pub waits : Stands (c.queue n) s
    pub other : HasOther c s n
    pub cancelled : c.cancel s ≢ 0
    pub unheeded : c.heeded s ≡ 0

  pub record CanLeave (s n : ℕ) : Type 0 where
    pub inside : Inside c s n
    pub waits : Stands (c.queue n) s
    pub heeded : c.heeded s ≢ 0

  abbrev pub BasePossible : Event → Type 0
  BasePossible (Begin s) = CanBegin s
  BasePossible (Clear s) = 0 < c.stamp s
  BasePossible (Fast s n) = CanFast s n
  BasePossible (FastGive s n) = CanFastGive s n
  BasePossible (Guard s n) = CanGuard s n
  BasePossible (Join s n) = CanJoin s n
  BasePossible (Sign s v) = Inside c s (place_of c s)
  BasePossible (Take s n) = CanTake s n
  BasePossible (Ask s n) = CanAsk s n
  BasePossible (Give s n) = CanGive s n
  BasePossible (Die s n) = CanDie s n
  BasePossible (Unguard s n) = CanUnguard s n
  BasePossible (Commit s) = CanCommit s
  BasePossible (End s) = CanEnd s
  BasePossible (Cancel s v) = CanCancel s v
  BasePossible (Heed s n) = CanHeed s n
  BasePossible (Leave s n) = CanLeave s n

  -- ---- what it asks of signs

  -- Wait-Die: the seat doesn't have to die in the guard that it is inside of
  pub record MayLive (s n : ℕ) : Type 0 where
    pub kind : c.kind ≡ WaitDie
    pub inside : Inside c s n
    pub lives : dies c s n ≡ None

  -- the sign is owed, and the seat has none yet
  pub record IsStillOwed (s v : ℕ) : Type 0 where
    pub unsigned : c.sign v ≡ 0
    pub owed : IsSome (owed_to v (owes c s (place_of c s)))

  -- in Wait-Die the seat neither has to die nor is signed
  pub record IsSafe (s n : ℕ) : Type 0 where
    pub lives : dies c s n ≡ None
    pub unsigned : c.sign s ≡ 0

  -- nothing is still owed
  pub record IsPaid (s n : ℕ) : Type 0 where
    pub signed : (v k : ℕ) → Has (owes c s n) (v, k) → c.sign v ≢ 0
    pub safe : c.kind ≡ WaitDie → IsSafe s n

  abbrev pub SignsPossible : Event → Type 0
  SignsPossible (Clear s) = (Away c s × OwnsNone c s) ⊎ ((n : ℕ) × MayLive s n)
  SignsPossible (Fast s n) = IsCalm c s
  SignsPossible (Guard s n) = Owns c s n ⊎ (Stands (c.queue n) s ⊎ IsCalm c s)
  SignsPossible (Join s n) = IsCalm c s
  SignsPossible (Sign s v) = IsStillOwed s v
  SignsPossible (Take s n) = IsCalm c s
  SignsPossible (Die s n) = IsSome (dies c s n)
  SignsPossible (Unguard s n) = IsPaid s n
  SignsPossible (End s) = c.sign s ≡ 0
  SignsPossible _ = Unit {0}

  -- the event is possible
  pub record Possible (e : Event) : Type 0 where
    pub base : BasePossible e
    pub signs : SignsPossible e

  -- ---- the state after it

  abbrev pub after : Event → State
  after (Begin s) = record c { drawn = c.drawn + 1; stamp = put c.stamp s (c.drawn + 1) }
  after (Clear s) = record c { sign = put c.sign s 0 }
  after (Fast s n) = record c { owner = put c.owner n (holder.Taken s) }
  after (FastGive s n) = record c { owner = put c.owner n holder.Nobody }
  after (Guard s n) = record c { guard = put c.guard n (suc s) }
  after (Join s n) = record c { queue = put c.queue n (joined (c.queue n) (waiter_of c s)) }
  after (Sign s v) = record c { sign = put c.sign v (unwrap_or (owed_to v (owes c s (place_of c s))) 0) }
  after (Take s n) = record c {
    owner = put c.owner n (holder.Taken s);
    asked = put c.asked n false;
    queue = put c.queue n (left (c.queue n) s);
  }
  after (Ask s n) = record c { asked = put c.asked n true }
  after (Give s n) = record c { owner = put c.owner n (given_to (c.asked n) (c.queue n)); asked = put c.asked n false }
  after (Die s n) = record c {
    queue = put c.queue n (left (c.queue n) s);
    asked = put c.asked n (still_asked (left (c.queue n) s) (c.asked n));
  }
  after (Unguard s n) = record c { guard = put c.guard n 0 }
  after (Commit s) = record c { commits = c.commits + 1 }
  after (End s) = record c { stamp = put c.stamp s 0 }
  after (Cancel s v) = record c { cancel = put c.cancel v (s + 1) }
  after (Heed s n) = record c { cancel = put c.cancel s 0; heeded = put c.heeded s (c.cancel s) }
  after (Leave s n) = record c {
    queue = put c.queue n (left (c.queue n) s);
    asked = put c.asked n (still_asked (left (c.queue n) s) (c.asked n));
    heeded = put c.heeded s 0;
  }

  -- ---- its answer

  abbrev pub answer : Event → Answer
  answer (Begin s) = Stamp (c.drawn + 1)
  answer (Fast s n) = Locked
  answer (Sign s v) = Met (unwrap_or (owed_to v (owes c s (place_of c s))) 0)
  answer (Take s n) = Locked
  answer (Give s n) = giving (given_to (c.asked n) (c.queue n))
  answer (Die s n) = Deadlk (unwrap_or (dies c s n) 0)
  answer (Commit s) = Place c.commits
  answer (Leave s n) = Interrupted (c.heeded s - 1)
  answer _ = Done
