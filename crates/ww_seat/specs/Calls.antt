-- What the calls of the locks make of a seat.
use Rattle.std.specs.Prelude.{ℕ, ◌≡◌, ◌<◌, ◌+◌, List, true, false, length, Some, None, IsTrue}
use Rattle.std.specs.List.{AllByRecursion}
use mathlib.Core.Option.{some}
use lib.ListN.{get_elem?}
use Rattle.ww_word.specs.declared.owner.Owner.{Owner}
use Rattle.ww_queue.specs.declared.entry.Entry.{Entry}
use Rattle.ww_plain.specs.declared.node.Node.{Node}
use Rattle.ww_plain.specs.declared.history.Record.{Record}
use Rattle.ww_plain.specs.Numbers.{is_among}
use Rattle.ww_plain.specs.Graph.{IsNodeOf, no_node, node_at}
use Rattle.ww_view.specs.declared.view.View.{View}
use Rattle.ww_view.specs.View.{owns}
use Rattle.ww_view.specs.May.{IsShownBy, WantsSigns}
use Rattle.ww_invariant.specs.Rule.{Sat}
use Rattle.ww_table.specs.declared.seat.Taking.{Taking}
use Rattle.ww_table.specs.declared.seat.Taking.TheVariants.{Took, Had, Missed}
use Rattle.ww_table.specs.declared.seat.Giving.{Giving}
use Rattle.ww_table.specs.declared.seat.Giving.TheVariants.{Gave, Kept, Lacked}
use Rattle.ww_seat.specs.Accounts.{Account, account_of, having_tried, having_taken, having_given, having_died, having_stopped, having_begun, having_ended, having_committed}
use Rattle.ww_seat.specs.declared.waiting.NoLock.{NoLock}
use Rattle.ww_seat.specs.declared.waiting.NoLock.TheVariants.{Deadlk, Interrupted}
use Rattle.ww_seat.specs.declared.waits.Waits.{Waits}
use Rattle.ww_seat.specs.declared.waits.Waits.TheVariants.{UntilCancelled}

-- it has what it had, and did nothing that is counted
abbrev pub HoldsAsBefore : Sat → Sat → Type 0
HoldsAsBefore m m' = account_of m' ≡ account_of m

-- it tried in vain to take a lock by one step
abbrev pub HasTriedInVain : Sat → Sat → Type 0
HasTriedInVain m m' = account_of m' ≡ having_tried (account_of m)

-- Beside what this account says it owns lock n, with a node of a graph of as many nodes. An older context that it met
-- before is forgotten.
pub record HasAdded (a : Account) (n : ℕ) (x : Node) (m' : Sat) : Type 0 where
  pub now : account_of m' ≡ having_taken a n x
  pub node : IsNodeOf (length a.held) x
  pub unmet : m'.0.part.core.met ≡ None

-- it owns one lock more, the only one that it took; it tried to take none by one step
abbrev pub HasTaken : Sat → ℕ → Node → Sat → Type 0
HasTaken m n x m' = HasAdded (account_of m) n x m'

-- ... by one try to take it by one step
abbrev pub HasTakenAtOnce : Sat → ℕ → Node → Sat → Type 0
HasTakenAtOnce m n x m' = HasAdded (having_tried (account_of m)) n x m'

-- It tried in vain to take lock n by one step, which it doesn't own, and may go on to want it.
pub record HasMissed (m : Sat) (n : ℕ) (m' : Sat) : Type 0 where
  pub lacks : owns m.0.part.core n ≡ false
  pub tried : HasTriedInVain m m'
  pub met : m'.0.part.core.met ≡ m.0.part.core.met
  pub glances : m'.0.part.core.glances ≡ 0
  pub signs : WantsSigns m'.0.part.core

-- What one try to take lock n came to, which guards no node: a blank node stands for that. If it had the lock, nothing has
-- changed.
abbrev pub HasTriedOnce : Sat → ℕ → Taking → Sat → Type 0
HasTriedOnce m n Took m' = (owns m.0.part.core n ≡ false) × HasTakenAtOnce m n no_node m'
HasTriedOnce m n Had m' = (owns m.0.part.core n ≡ true) × (m' ≡ m)
HasTriedOnce m n Missed m' = HasMissed m n m'

-- It went inside no guard: it tried to go into none, and looked at no owner word in one. So it has to wake nobody else, and
-- left none in order to sleep.
pub record HasStayedOut (v v' : View) : Type 0 where
  pub attempts : v'.attempts ≡ v.attempts
  pub debts : v'.debts ≡ v.debts
  pub naps : v'.naps ≡ v.naps
  pub deaf : v'.deaf ≡ v.deaf

-- it owns one lock less
abbrev pub HasGiven : Sat → ℕ → Sat → Type 0
HasGiven m n m' = account_of m' ≡ having_given (account_of m) n

-- What one try to release lock n came to, which guards no node. If it hadn't the lock, nothing has changed.
abbrev pub HasLetOnce : Sat → ℕ → Giving → Sat → Type 0
HasLetOnce m n Gave m' = (owns m.0.part.core n ≡ true) × HasGiven m n m' × (m'.0.part.core.kept ≡ m.0.part.core.kept)
HasLetOnce m n Kept m' = (owns m.0.part.core n ≡ true) × HoldsAsBefore m m' × (m'.0.part.core.kept ≡ m.0.part.core.kept + 1)
HasLetOnce m n Lacked m' = (owns m.0.part.core n ≡ false) × (m' ≡ m)

-- Its view says what it met as it backed off from lock n, and what it saw there: that shows an older context of stamp
-- k. Only the step that the rules have for a context that has to back off makes a view say so.
pub record HasMet (n k : ℕ) (v : View) : Type 0 where
  pub owner : Owner
  pub list : List Entry
  pub noted : v.met ≡ Some (record { lock = n; stamp = k; owner = owner; list = list })
  pub shown : IsShownBy v.kind v.sign list v.who owner k

-- It got EDEADLK: it owns what it owned, one lock at least, and backed off once, from an older context that it met.
pub record HasToDie (m : Sat) (n k : ℕ) (m' : Sat) : Type 0 where
  pub now : account_of m' ≡ having_died (account_of m)
  pub one : (j : ℕ) × (owns m.0.part.core j ≡ true)
  pub context : 0 < k
  pub older : k < m.0.part.core.stamp
  pub met : HasMet n k m'.0.part.core

-- It was interrupted: it owns what it owned, left the wait list of lock n for the cancel of this seat, which it had heeded
-- there, and its view names both. Each is a step of its own: no other step adds to the cancels heeded, and none to the
-- interruptions.
pub record HasStopped (m : Sat) (n by : ℕ) (m' : Sat) : Type 0 where
  pub now : account_of m' ≡ having_stopped (account_of m) n by
  pub unmet : m'.0.part.core.met ≡ None

-- why it came without the lock
abbrev pub IsTurnedAway : Sat → ℕ → NoLock → Sat → Type 0
IsTurnedAway m n (Deadlk k) m' = HasToDie m n k m'
IsTurnedAway m n (Interrupted by) m' = HasStopped m n by m'

-- only a wait until a cancel is interrupted
abbrev pub MayStop : ℕ → Waits → NoLock → Type 0
MayStop seats waits (Deadlk k) = Unit {0}
MayStop seats waits (Interrupted by) = (waits ≡ UntilCancelled) × (by < seats)

-- A context of stamp k started: the seat holds what it held, and has drawn once more.
pub record HasBegun (m : Sat) (k : ℕ) (m' : Sat) : Type 0 where
  pub now : account_of m' ≡ having_begun (account_of m) k
  pub unmet : m'.0.part.core.met ≡ None

-- The context ended: the seat has no stamp, and is otherwise as it was.
abbrev pub HasEnded : Sat → Sat → Type 0
HasEnded m m' = account_of m' ≡ having_ended (account_of m)

-- it owns these nodes, and its view names them as they are in this graph
abbrev pub HoldsAll : Sat → List Node → List ℕ → Type 0
HoldsAll m graph ns = (n : ℕ) → IsTrue (is_among n ns) → (owns m.0.part.core n ≡ true)
    × (get_elem? m.0.held n ≡ some (Some (node_at graph n)))

-- A commit: its log has the record besides, at a place above all others, and its view names these nodes as they
-- are in the graph afterwards, the others as before.
pub record HasCommitted (m : Sat) (place : ℕ) (r : Record) (after : List Node) (ns : List ℕ) (m' : Sat) : Type 0 where
  pub now : account_of m' ≡ having_committed (account_of m) place r m'.0.held
  pub above : AllByRecursion (λ p. p.0 < place) m.0.part.own
  pub named : (n : ℕ) → IsTrue (is_among n ns) → get_elem? m'.0.held n ≡ some (Some (node_at after n))
  pub others : (n : ℕ) → is_among n ns ≡ false → owns m.0.part.core n ≡ true → get_elem? m'.0.held n ≡ get_elem? m.0.held n
