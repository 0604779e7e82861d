-- What an event leaves alone.
use Rattle.std.specs.Prelude.{ℕ, suc, ◌≡◌, ◌≢◌, ◌<◌, ◌^◌, ◌⊎◌, ◌↔◌, []}
use Rattle.ww_queue.specs.declared.kind.Kind.TheVariants.{WaitDie}
use Rattle.ww_queue.specs.declared.entry.Entry.{Entry}
use Rattle.ww_queue.specs.Queue.{Has, StandsNot}
use Rattle.ww_model.specs.declared.state.Holder.TheVariants.{Taken, Handed}
use Rattle.ww_model.specs.declared.event.Event.{Event}
use Rattle.ww_model.specs.declared.event.Event.TheVariants.{FastGive, Sign, Take, Give, Cancel}
use Rattle.ww_model.specs.State.{State, OwnsNone, word_of, owes}
use Rattle.ww_model.specs.Event.{BasePossible, Possible, after, actor}
use Rattle.ww_model.specs.Lawful.{IsLawful}

-- ---- to the seats whose event it is not

-- nobody else can sign the seat: it owns no lock, or, in Wait-Die, it is inside a guard
abbrev pub NobodySigns : State → ℕ → Type 0
NobodySigns c t = OwnsNone c t ⊎ ((c.kind ≡ WaitDie) × ((n : ℕ) × (c.guard n ≡ suc t)))

module _ (c d : State) (t : ℕ) where
  -- of lock n, inside whose guard the seat is
  pub record LeavesInside (n : ℕ) : Type 0 where
    pub queue : d.queue n ≡ c.queue n
    -- Where nobody waits, FastGive and Fast of others write the word.
    pub word : c.queue n ≢ [] → word_of d n ≡ word_of c n
    -- a seat that is owed a sign was owed one before, and keeps the one that it has
    pub owed : (v k : ℕ) → Has (owes d t n) (v, k) → Has (owes c t n) (v, k)
    pub signed : (v k : ℕ) → Has (owes c t n) (v, k) → c.sign v ≢ 0 → d.sign v ≢ 0

  -- what seat t has in c it has in d
  pub record LeavesAlone : Type 0 where
    pub stamp : d.stamp t ≡ c.stamp t
    pub taken : (n : ℕ) → (c.owner n ≡ Taken t) ↔ (d.owner n ≡ Taken t)
    pub handed : (n : ℕ) → c.owner n ≡ Handed t → d.owner n ≡ Handed t
    pub guard : (n : ℕ) → (c.guard n ≡ suc t) ↔ (d.guard n ≡ suc t)
    pub entry : (n : ℕ) (e : Entry) → e.seat ≡ t → Has (c.queue n) e ↔ Has (d.queue n) e
    pub inside : (n : ℕ) → c.guard n ≡ suc t → LeavesInside n
    pub signed : 0 < c.sign t → d.sign t ≡ c.sign t
    pub unsigned : NobodySigns c t → d.sign t ≡ c.sign t
    pub cancelled : 0 < c.cancel t → d.cancel t ≡ c.cancel t
    pub heeded : d.heeded t ≡ c.heeded t

-- a possible event of a lawful state leaves the others alone
abbrev pub OthersAreLeftAlone : Type 0
OthersAreLeftAlone = (c : State) (e : Event) (t : ℕ) → IsLawful c → Possible c e → actor e ≢ t →
    LeavesAlone c (after c e) t

-- the sign of another changes only from 0, and by Sign
abbrev pub OthersAreSignedOnce : Type 0
OthersAreSignedOnce = (c : State) (e : Event) (t : ℕ) → Possible c e → actor e ≢ t → (after c e).sign t ≢ c.sign t →
    (c.sign t ≡ 0) × (e ≡ Sign (actor e) t)

-- the cancel of another changes only where none is pending, and by Cancel
abbrev pub OthersAreCancelledOnce : Type 0
OthersAreCancelledOnce = (c : State) (e : Event) (t : ℕ) → Possible c e → actor e ≢ t →
    (after c e).cancel t ≢ c.cancel t → (c.cancel t ≡ 0) × (e ≡ Cancel (actor e) t)

-- ---- owners

-- an owner that has taken the lock leaves it only by its own FastGive or Give there
abbrev pub TakenLeavesByGiving : Type 0
TakenLeavesByGiving = (c : State) (e : Event) (s n : ℕ) → BasePossible c e →
    c.owner n ≡ Taken s → (after c e).owner n ≢ Taken s → (e ≡ FastGive s n) ⊎ (e ≡ Give s n)

-- a seat to which the lock was handed ceases to be the handed owner only by its own Take there
abbrev pub HandedLeavesByTaking : Type 0
HandedLeavesByTaking = (c : State) (e : Event) (s n : ℕ) → BasePossible c e →
    c.owner n ≡ Handed s → (after c e).owner n ≢ Handed s → e ≡ Take s n

-- ---- of one state

-- A seat that is inside a guard, doesn't wait there and hasn't taken the lock owes no unsigned seat.
abbrev pub OutsidersOweNothing : State → Type 0
OutsidersOweNothing c = (s n : ℕ) → c.guard n ≡ suc s → StandsNot (c.queue n) s → c.owner n ≢ Taken s →
    (v k : ℕ) → Has (owes c s n) (v, k) → c.sign v ≢ 0

-- the stamps that were drawn fit an owner word
abbrev pub StampsAreFew : State → Type 0
StampsAreFew c = c.drawn < 2 ^ 56
