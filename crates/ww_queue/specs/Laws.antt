-- What holds of wait lists and their rules as a whole.
use Rattle.std.specs.Prelude.{ℕ, ◌≡◌, ◌≢◌, ◌<◌, ◌≤◌, ◌∷◌, ◌++◌, ◌⊎◌, ◌↔◌, [], List, Some, None, false, length, MatchOption}
use Rattle.ww_word.specs.declared.owner.Owner.{Owner}
use Rattle.ww_word.specs.Owner.{is_handed}
use Rattle.ww_queue.specs.declared.kind.Kind.{Kind}
use Rattle.ww_queue.specs.declared.kind.Kind.TheVariants.{WoundWait, WaitDie}
use Rattle.ww_queue.specs.declared.entry.Entry.{Entry}
use Rattle.ww_queue.specs.declared.queue.TheConstants.{MAX_WAITERS}
use Rattle.ww_queue.specs.Entry.{IsOlder, IsHolding}
use Rattle.ww_queue.specs.Queue.{Has, Before, Stands, StandsNot, IsNewStamp, Once, Ascends, joined, left, entry_of, ahead_of}
use Rattle.ww_queue.specs.Rules.{must_die, owed_signs}
use Rattle.ww_queue.specs.AnySeats.{signs_past}

-- no waiter is younger than the stamp
abbrev pub NoneYounger : ℕ → List Entry → Type 0
NoneYounger stamp q = (e : Entry) → Has q e → ¬ IsOlder stamp e.stamp

-- there is no waiter, or the first one is younger than the stamp
abbrev pub BeginsYounger : ℕ → List Entry → Type 0
BeginsYounger stamp [] = Unit {0}
BeginsYounger stamp (e ∷ es) = IsOlder stamp e.stamp

-- the new list is the old one with x put in immediately before the first younger one
pub record HasJoined (q : List Entry) (x : Entry) (new : List Entry) : Type 0 where
  pub front : List Entry
  pub rest : List Entry
  pub old_parts : q ≡ front ++ rest
  pub new_parts : new ≡ front ++ x ∷ rest
  pub passed : NoneYounger x.stamp front
  pub stopped : BeginsYounger x.stamp rest

-- a waiter that joins comes immediately before the first younger context, else last, and nobody else moves
abbrev pub JoinTakesItsPosition : Type 0
JoinTakesItsPosition = (q : List Entry) (x : Entry) → HasJoined q x (joined q x)

-- a waiter without a context goes last
abbrev pub SoloJoinsLast : Type 0
SoloJoinsLast = (q : List Entry) (x : Entry) → x.stamp ≡ 0 → joined q x ≡ q ++ x ∷ []

-- after a join the list has those that were there and the new one, in the order in which they were
abbrev pub JoinKeepsEach : Type 0
JoinKeepsEach = (q : List Entry) (x y : Entry) →
    (Has (joined q x) y ↔ ((y ≡ x) ⊎ Has q y)) × ((z : Entry) → Before q y z → Before (joined q x) y z)

-- a join keeps the contexts in the order of their stamps, and no seat waits twice after it
abbrev pub JoinKeepsOrder : Type 0
JoinKeepsOrder = (q : List Entry) (x : Entry) →
    (IsNewStamp q x.stamp → Ascends q → Ascends (joined q x)) × (StandsNot q x.seat → Once q → Once (joined q x))

-- the new list is the old one without e, which was the first of its seat
pub record HasLeft (q : List Entry) (seat : ℕ) (new : List Entry) (e : Entry) : Type 0 where
  pub front : List Entry
  pub rest : List Entry
  pub old_parts : q ≡ front ++ e ∷ rest
  pub new_parts : new ≡ front ++ rest
  pub own : e.seat ≡ seat
  pub first : StandsNot front seat

-- a waiter that leaves is taken out, and nobody else moves; if the seat doesn't wait, the list stays as it is
abbrev pub LeaveTakesOneOut : Type 0
LeaveTakesOneOut = (q : List Entry) (seat : ℕ) →
    MatchOption (entry_of q seat) (StandsNot q seat × (left q seat ≡ q)) (HasLeft q seat (left q seat))

-- a leave keeps the contexts in order, no seat waits twice after it, and the seat itself no longer waits
abbrev pub LeaveKeepsOrder : Type 0
LeaveKeepsOrder = (q : List Entry) (seat : ℕ) →
    (Ascends q → Ascends (left q seat)) × (Once q → Once (left q seat) × StandsNot (left q seat) seat)

-- where each waiter is another of 16 seats, there is room for a seat that doesn't wait yet
abbrev pub EachSeatHasRoom : Type 0
EachSeatHasRoom = (q : List Entry) (seat : ℕ) → Once q → ((e : Entry) → Has q e → e.seat < MAX_WAITERS) →
    StandsNot q seat → seat < MAX_WAITERS → length q < MAX_WAITERS

-- e is the first waiter with a context, and the seat waits after it
pub record IsAhead (q : List Entry) (seat : ℕ) (e : Entry) : Type 0 where
  pub front : List Entry
  pub rest : List Entry
  pub parts : q ≡ front ++ e ∷ rest
  pub solos : (y : Entry) → Has front y → (y.stamp ≡ 0) × (y.seat ≢ seat)
  pub context : 0 < e.stamp
  pub other : e.seat ≢ seat
  pub behind : Stands rest seat

-- the context ahead of a seat is the first one in the list, if the seat waits after it
abbrev pub AheadIsFirstContext : Type 0
AheadIsFirstContext = (q : List Entry) (seat : ℕ) (e : Entry) → (ahead_of q seat ≡ Some e) ↔ IsAhead q seat e

-- the owner is another seat, with an older context than the waiter's
pub record MeetsOlderOwner (owner : Owner) (e : Entry) : Type 0 where
  pub seat : ℕ
  pub owns : owner.seat ≡ Some seat
  pub other : seat ≢ e.seat
  pub older : IsOlder owner.stamp e.stamp

-- k is the stamp of an older owner, or else of the first context, which stands before the waiter
abbrev pub IsCause : Owner → List Entry → Entry → ℕ → Type 0
IsCause owner q e k =
    (MeetsOlderOwner owner e × (k ≡ owner.stamp)) ⊎
    ((¬ MeetsOlderOwner owner e) × ((x : Entry) × (ahead_of q e.seat ≡ Some x) × (k ≡ x.stamp)))

-- in Wait-Die a waiter has to die iff it holds locks and an older owner or a context before it is the cause
abbrev pub WaitDieCondemns : Type 0
WaitDieCondemns = (owner : Owner) (q : List Entry) (e : Entry) (sign k : ℕ) → Once q → Has q e →
    (must_die WaitDie owner q e.seat sign ≡ Some k) ↔ (IsHolding e × IsCause owner q e k)

-- in Wound-Wait a waiter has to die iff it holds locks and has a sign
abbrev pub WoundWaitCondemns : Type 0
WoundWaitCondemns = (owner : Owner) (q : List Entry) (e : Entry) (sign k : ℕ) → Once q → Has q e →
    (must_die WoundWait owner q e.seat sign ≡ Some k) ↔ (IsHolding e × (0 < k) × (k ≡ sign))

-- a seat that doesn't wait doesn't have to die
abbrev pub OnlyWaitersDie : Type 0
OnlyWaitersDie = (kind : Kind) (owner : Owner) (q : List Entry) (me sign : ℕ) → StandsNot q me →
    must_die kind owner q me sign ≡ None

-- in Wait-Die a waiter dies of an older context only
abbrev pub DeathIsOfOlder : Type 0
DeathIsOfOlder = (owner : Owner) (q : List Entry) (e : Entry) (sign k : ℕ) → Once q → Ascends q → Has q e →
    must_die WaitDie owner q e.seat sign ≡ Some k → IsOlder k e.stamp

-- in Wait-Die exactly the waiters that have to die are signed, except the seat inside
abbrev pub SignsAreDeaths : Type 0
SignsAreDeaths = (owner : Owner) (q : List Entry) (me seat k : ℕ) →
    Has (owed_signs WaitDie owner q me) (seat, k) ↔ ((seat ≢ me) × (must_die WaitDie owner q seat 0 ≡ Some k))

-- k is the least stamp of a waiter that has a context and holds locks
pub record IsLeastHolding (q : List Entry) (k : ℕ) : Type 0 where
  pub waiter : Entry
  pub stands : Has q waiter
  pub holds : IsHolding waiter
  pub stamp : waiter.stamp ≡ k
  pub least : (e : Entry) → Has q e → IsHolding e → k ≤ e.stamp

-- the seat has taken the lock, and k is the oldest waiter that holds locks and older than it
pub record IsWounded (owner : Owner) (q : List Entry) (seat k : ℕ) : Type 0 where
  pub owns : owner.seat ≡ Some seat
  pub taken : is_handed owner ≡ false
  pub oldest : IsLeastHolding q k
  pub older : IsOlder k owner.stamp

-- in Wound-Wait the owner alone is signed, iff it has taken the lock and an older waiter holds locks
abbrev pub SignIsWound : Type 0
SignIsWound = (owner : Owner) (q : List Entry) (me : ℕ) →
    ((seat k : ℕ) → (owed_signs WoundWait owner q me ≡ (seat, k) ∷ []) ↔ IsWounded owner q seat k) ×
    (((seat k : ℕ) → ¬ IsWounded owner q seat k) → owed_signs WoundWait owner q me ≡ [])

-- one walk along a list in which each seat waits once finds the signs that are owed
abbrev pub OneWalkFindsAllSigns : Type 0
OneWalkFindsAllSigns = (kind : Kind) (owner : Owner) (q : List Entry) (me : ℕ) → Once q →
    signs_past kind owner q me 0 ≡ owed_signs kind owner q me
