-- What every reached state keeps. Each clause is a definition over just the components that it reads.
use Rattle.std.specs.Prelude.{ℕ, suc, ◌≡◌, ◌≢◌, ◌<◌, ◌≤◌, ◌⊎◌, Bool, true, false, List, [], IsSome}
use Rattle.ww_queue.specs.declared.kind.Kind.{Kind}
use Rattle.ww_queue.specs.declared.kind.Kind.TheVariants.{WoundWait, WaitDie}
use Rattle.ww_queue.specs.declared.entry.Entry.{Entry}
use Rattle.ww_queue.specs.Queue.{Has, Before, Stands, StandsNot, Once, Ascends}
use Rattle.ww_model.specs.declared.state.Holder.{Holder}
use Rattle.ww_model.specs.declared.state.Holder.TheVariants.{Nobody, Taken, Handed}
use Rattle.ww_model.specs.declared.event.Event.{Event}
use Rattle.ww_model.specs.State.{State, dies}
use Rattle.ww_model.specs.Event.{BasePossible, Possible, after}

-- ---- the base: stamps, owners, wait lists, guards, solos

-- the stamps of contexts differ, and are 1 to the stamp drawn last
pub record Stamps (drawn : ℕ) (stamp : ℕ → ℕ) : Type 0 where
  pub differ : (s t : ℕ) → 0 < stamp s → stamp s ≡ stamp t → s ≡ t
  pub below : (s : ℕ) → stamp s ≤ drawn

-- A handed owner stands in the lock's wait list, and an owner that has taken the lock doesn't. To hand the lock over is
-- asked only of a taken one, where somebody waits.
pub record OwnerAt (owner : Holder) (asked : Bool) (q : List Entry) : Type 0 where
  pub handed_stands : (s : ℕ) → owner ≡ Handed s → Stands q s
  pub taken_stands_not : (s : ℕ) → owner ≡ Taken s → StandsNot q s
  pub asked_taken : asked ≡ true → ((s : ℕ) × (owner ≡ Taken s)) × (q ≢ [])

-- the same of each lock; where no lock is, nobody owns
pub record Owners (locks : ℕ) (owner : ℕ → Holder) (asked : ℕ → Bool) (queue : ℕ → List Entry) : Type 0 where
  pub at : (n : ℕ) → OwnerAt (owner n) (asked n) (queue n)
  pub beyond : (n : ℕ) → locks ≤ n → owner n ≡ Nobody

-- No seat waits twice in the list, each entry has its seat's stamp and says whether the seat owns a lock, and the
-- contexts ascend.
pub record QueueAt (stamp : ℕ → ℕ) (owner : ℕ → Holder) (q : List Entry) : Type 0 where
  pub once : Once q
  pub stamps : (e : Entry) → Has q e → e.stamp ≡ stamp e.seat
  pub holds : (e : Entry) → Has q e → e.holds ≡ true → (n : ℕ) × (owner n ≡ Taken e.seat)
  pub holds_not : (e : Entry) → Has q e → e.holds ≡ false → (n : ℕ) → owner n ≢ Taken e.seat
  pub ascends : Ascends q

-- the same of each lock, and a seat waits at one lock at most
pub record Queues (stamp : ℕ → ℕ) (owner : ℕ → Holder) (queue : ℕ → List Entry) : Type 0 where
  pub at : (n : ℕ) → QueueAt stamp owner (queue n)
  pub one_queue : (m n : ℕ) (e f : Entry) → Has (queue m) e → Has (queue n) f → e.seat ≡ f.seat → m ≡ n

-- a seat is inside one guard at most, and one that waits inside no other than that of its own lock
pub record Guards (queue : ℕ → List Entry) (guard : ℕ → ℕ) : Type 0 where
  pub one_guard : (s m n : ℕ) → guard m ≡ suc s → guard n ≡ suc s → m ≡ n
  pub own_guard : (m n : ℕ) (e : Entry) → Has (queue m) e → guard n ≡ suc e.seat → m ≡ n

-- a seat without a context owns one lock at most, and none while it waits
pub record Solos (stamp : ℕ → ℕ) (owner : ℕ → Holder) (queue : ℕ → List Entry) : Type 0 where
  pub one_lock : (s m n : ℕ) → stamp s ≡ 0 → owner m ≡ Taken s → owner n ≡ Taken s → m ≡ n
  pub none_queued : (n m : ℕ) (e : Entry) → Has (queue n) e → stamp e.seat ≡ 0 → owner m ≢ Taken e.seat

-- ---- the cancels

-- the seat is inside the guard of the lock and waits there, and another has the lock
pub record IsKept (owner : ℕ → Holder) (queue : ℕ → List Entry) (guard : ℕ → ℕ) (s n : ℕ) : Type 0 where
  pub inside : guard n ≡ suc s
  pub waits : Stands (queue n) s
  pub other : (t : ℕ) × (t ≢ s) × ((owner n ≡ Taken t) ⊎ (owner n ≡ Handed t))

-- A cancel that is pending, and one that was heeded, is 0 or a seat plus 1; and a seat that has heeded one is inside
-- the guard where it waits, kept from the lock by another. This is no matter of signs: that a handed owner goes on
-- waiting in the list holds after Leave only since the seat that leaves isn't that owner.
pub record Cancels (seats : ℕ) (cancel mark : ℕ → ℕ) (owner : ℕ → Holder) (queue : ℕ → List Entry) (guard : ℕ → ℕ)
    : Type 0 where
  pub set : (s : ℕ) → cancel s ≤ seats
  pub heeded : (s : ℕ) → mark s ≤ seats
  pub heeding : (s : ℕ) → 0 < mark s → (n : ℕ) × IsKept owner queue guard s n

-- ---- the signs

-- a sign is that of an older context, so a seat without a context has none
abbrev pub OlderSigns : (ℕ → ℕ) → (ℕ → ℕ) → Type 0
OlderSigns stamp sign = (s : ℕ) → 0 < sign s → sign s < stamp s

-- Wound-Wait, of one lock: an owner that is met by an older waiter which holds locks, both outside the guard, is signed
abbrev pub WoundsAt : (ℕ → ℕ) → (ℕ → ℕ) → Holder → List Entry → ℕ → Type 0
WoundsAt stamp sign owner q guard =
    (t : ℕ) (e : Entry) → owner ≡ Taken t → guard ≢ suc t → Has q e → guard ≢ suc e.seat →
    e.holds ≡ true → 0 < e.stamp → e.stamp < stamp t → 0 < sign t

abbrev pub Wounds : Kind → (ℕ → ℕ) → (ℕ → ℕ) → (ℕ → Holder) → (ℕ → List Entry) → (ℕ → ℕ) → Type 0
Wounds kind stamp sign owner queue guard =
    kind ≡ WoundWait → (n : ℕ) → WoundsAt stamp sign (owner n) (queue n) (guard n)

-- Wait-Die, of one lock, whichever seat is inside the guard: of the waiters outside it that hold locks, one that is
-- younger than the owner outside it is signed, and so is one that stands after another context outside it.
pub record DeathsAt (stamp sign : ℕ → ℕ) (owner : Holder) (q : List Entry) (guard : ℕ) : Type 0 where
  pub younger_signed : (t : ℕ) (e : Entry) → owner ≡ Taken t → 0 < stamp t → guard ≢ suc t →
      Has q e → guard ≢ suc e.seat → e.holds ≡ true → stamp t < e.stamp → 0 < sign e.seat
  pub later_holders_signed : (e f : Entry) → Before q e f → 0 < e.stamp → 0 < f.stamp →
      guard ≢ suc e.seat → guard ≢ suc f.seat → f.holds ≡ true → 0 < sign f.seat

abbrev pub Deaths : Kind → (ℕ → ℕ) → (ℕ → ℕ) → (ℕ → Holder) → (ℕ → List Entry) → (ℕ → ℕ) → Type 0
Deaths kind stamp sign owner queue guard = kind ≡ WaitDie → (n : ℕ) → DeathsAt stamp sign (owner n) (queue n) (guard n)

-- Where signs may stand. Wound-Wait: not on a waiter that owns no lock. Wait-Die: only on a seat that waits or is
-- inside a guard.
pub record Signs
    (kind : Kind) (sign : ℕ → ℕ) (owner : ℕ → Holder) (queue : ℕ → List Entry) (guard : ℕ → ℕ) : Type 0 where
  pub unowning : kind ≡ WoundWait → (n : ℕ) (e : Entry) → Has (queue n) e →
      ((m : ℕ) → owner m ≢ Taken e.seat) → sign e.seat ≡ 0
  pub waiting : kind ≡ WaitDie → (s : ℕ) → 0 < sign s → ((n : ℕ) × Stands (queue n) s) ⊎ ((n : ℕ) × (guard n ≡ suc s))

-- ---- together

pub record IsBase (c : State) : Type 0 where
  pub stamps : Stamps c.drawn c.stamp
  pub owners : Owners c.locks c.owner c.asked c.queue
  pub queues : Queues c.stamp c.owner c.queue
  pub guards : Guards c.queue c.guard
  pub solos : Solos c.stamp c.owner c.queue
  pub cancels : Cancels c.seats c.cancel c.heeded c.owner c.queue c.guard

pub record AreSigns (c : State) : Type 0 where
  pub older_signs : OlderSigns c.stamp c.sign
  pub wounds : Wounds c.kind c.stamp c.sign c.owner c.queue c.guard
  pub deaths : Deaths c.kind c.stamp c.sign c.owner c.queue c.guard
  pub signs : Signs c.kind c.sign c.owner c.queue c.guard

pub record IsLawful (c : State) : Type 0 where
  pub base : IsBase c
  pub signs : AreSigns c

-- each event that is possible as far as the base goes keeps this
abbrev pub KeepsBase : (State → Type 0) → Type 0
KeepsBase P = (c : State) (e : Event) → BasePossible c e → IsBase c → P (after c e)

-- each possible event of a lawful state keeps this
abbrev pub Keeps : (State → Type 0) → Type 0
Keeps P = (c : State) (e : Event) → Possible c e → IsLawful c → P (after c e)

-- ---- laws of one state

-- Wait-Die: where a guard is free, each seat that must die there has a sign
abbrev pub FreeGuardsOweNothing : State → Type 0
FreeGuardsOweNothing c = c.kind ≡ WaitDie → (n s : ℕ) → c.guard n ≡ 0 → IsSome (dies c s n) → 0 < c.sign s

-- Wait-Die: a seat with a sign owns a lock whose guard it isn't inside of
abbrev pub SignedOwnsOutside : State → Type 0
SignedOwnsOutside c = c.kind ≡ WaitDie → (s : ℕ) → 0 < c.sign s → (n : ℕ) × (c.owner n ≡ Taken s) × (c.guard n ≢ suc s)

-- ... which a possible event of a lawful state keeps
abbrev pub OutsideIsKept : Type 0
OutsideIsKept = (c : State) (e : Event) → Possible c e → IsLawful c →
    SignedOwnsOutside c → SignedOwnsOutside (after c e)
