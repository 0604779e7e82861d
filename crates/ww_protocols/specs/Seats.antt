-- A seat has one user, and none is lost.
use Rattle.std.specs.Prelude.{ℕ, ◌≡◌, ◌≢◌, ◌<◌, ◌⊎◌, Bool, true, false, List, [], ◌∷◌, length, Option, Some, None}
use Rattle.ww_protocols.specs.Seat.{IsFree, nothing, Rule, claims, uses_own}
use Rattle.ww_protocols.specs.Class.{Class, waits, due, QueueStep, acts, takes, Sleeps, SomebodySleeps, MayBeMade, after_step, IsReachedFrom, ReachedWithout, ReachedByRules}

-- ---- a seat has one user

abbrev pub SeatsHaveOneUser : Type 0
SeatsHaveOneUser = (c : Class) → ReachedByRules c → (s t u : ℕ) → (c.seat s).user t ≡ true → (c.seat s).user u ≡ true → t ≡ u

-- the seat that somebody comes to use by this step
abbrev pub comes_to : QueueStep → Option ℕ
comes_to (acts s (claims t)) = Some s
comes_to (acts s (uses_own t)) = Some s
comes_to (takes t s ticket) = Some s
comes_to _ = None

-- whoever comes to use a seat comes to one that nobody uses, itself included
abbrev pub NobodyUsesItYet : Type 0
NobodyUsesItYet = (c : Class) (step : QueueStep) (s : ℕ) → ReachedByRules c → MayBeMade None c step → comes_to step ≡ Some s →
    (t : ℕ) → (c.seat s).user t ≡ false

-- ---- contexts are suspended

-- two take one ticket, the second of them after other steps
pub record HasWonTwice (left_out : Option Rule) : Type 0 where
  pub class_ : Class
  pub later : Class
  pub ticket : ℕ
  pub t : ℕ
  pub s : ℕ
  pub u : ℕ
  pub r : ℕ
  pub reached : ReachedWithout left_out class_
  pub first : MayBeMade left_out class_ (takes t s ticket)
  pub between : IsReachedFrom left_out (after_step class_ (takes t s ticket)) later
  pub second : MayBeMade left_out later (takes u r ticket)

-- of the copies of a value at most one wins
abbrev pub CopiesWinOnce : Type 0
CopiesWinOnce = ¬ HasWonTwice None

-- the seat isn't free, nobody uses it, and its ticket stays until somebody takes that
pub record StaysSuspended (c : Class) (s ticket : ℕ) : Type 0 where
  pub busy : (c.seat s).busy ≡ true
  pub nobody : (t : ℕ) → (c.seat s).user t ≡ false
  pub until_taken : (step : QueueStep) → MayBeMade None c step →
      (((after_step c step).seat s).ticket ≡ Some ticket) ⊎ ((t : ℕ) × (step ≡ takes t s ticket))

-- the seat of a suspended context
abbrev pub SuspendedSeatsAreKept : Type 0
SuspendedSeatsAreKept = (c : Class) → ReachedByRules c → (s ticket : ℕ) → (c.seat s).ticket ≡ Some ticket → StaysSuspended c s ticket

-- ---- none is lost

-- the bit is set just where somebody has it, and that is one
pub record SaysWho (bit : Bool) (has : ℕ → Bool) : Type 0 where
  pub somebody : bit ≡ true → (t : ℕ) × (has t ≡ true)
  pub is_set : (t : ℕ) → has t ≡ true → bit ≡ true
  pub one : (t u : ℕ) → has t ≡ true → has u ≡ true → t ≡ u

-- BUSY, and its context isn't suspended
abbrev pub runs : Option ℕ → Bool → Bool
runs None busy = busy
runs (Some ticket) busy = false

-- a seat runs just where one uses it, and is taken just where it is one thread's own
abbrev pub SeatsSayWhoseTheyAre : Type 0
SeatsSayWhoseTheyAre = (c : Class) → ReachedByRules c → (s : ℕ) → let seat = c.seat s in
    SaysWho (runs seat.ticket seat.busy) seat.user × SaysWho seat.is_taken seat.owner

-- nobody is in a call of the queue: nobody looks, and nobody has anything to offer
pub record IsAtRest (c : Class) : Type 0 where
  pub nobody_looks : c.looks ≡ None
  pub all_settled : (s : ℕ) → s < c.seats → (t : ℕ) → (c.seat s).debt t ≡ nothing

-- somebody in the queue was called for the seat
abbrev pub IsAwaited : Class → ℕ → Type 0
IsAwaited c s = (u : ℕ) × (c.stands u ≡ waits) × (c.call u ≡ Some s)

-- No seat that anybody may use is free while a thread waits; and where a task waits that wasn't called, another one that waits was called
-- for each seat that is free and that tasks may claim.
pub record IsUnwanted (c : Class) (s : ℕ) : Type 0 where
  pub no_due : (t : ℕ) → c.stands t ≢ due
  pub is_called : (t : ℕ) → Sleeps c t → c.is_open s ≡ true → IsAwaited c s

abbrev pub NoSeatIsLost : Type 0
NoSeatIsLost = (c : Class) → ReachedByRules c → IsAtRest c → (s : ℕ) → s < c.seats → IsFree (c.seat s) → IsUnwanted c s

-- ---- how many are free

module _ (P : ℕ → Type 0) where
  abbrev pub EachIs : List ℕ → Type 0
  EachIs [] = Unit {0}
  EachIs (n ∷ ns) = P n × EachIs ns

abbrev pub AllDiffer : List ℕ → Type 0
AllDiffer [] = Unit {0}
AllDiffer (n ∷ ns) = EachIs (λ k. k ≢ n) ns × AllDiffer ns

-- free, and tasks may claim it
abbrev pub IsFreeForTasks : Class → ℕ → Type 0
IsFreeForTasks c s = (s < c.seats) × IsFree (c.seat s) × (c.is_open s ≡ true)

-- called, and in the queue
abbrev pub IsUnderWay : Class → ℕ → Type 0
IsUnderWay c u = (c.stands u ≡ waits) × ((s : ℕ) × (c.call u ≡ Some s))

-- Where nobody is in a call of the queue, and a task waits that wasn't called: however many seats are free for tasks, so many tasks
-- at least were called.
abbrev pub FreeSeatsAreAtMostTheCalls : Type 0
FreeSeatsAreAtMostTheCalls = (c : Class) → ReachedByRules c → IsAtRest c → SomebodySleeps c →
    (seats : List ℕ) → AllDiffer seats → EachIs (IsFreeForTasks c) seats →
    (tasks : List ℕ) × AllDiffer tasks × EachIs (IsUnderWay c) tasks × (length tasks ≡ length seats)
