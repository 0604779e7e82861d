-- How one state becomes another.
use Rattle.std.specs.Prelude.{ℕ, ◌≡◌, ◌<◌, ◌≤◌, ◌+◌, ◌-◌, ◌∷◌, ◌++◌, [], length, Bool, true, false, slice_set, Result, Ok, Err, None}
use Rattle.ww_plain.specs.declared.node.Node.{Node}
use Rattle.ww_plain.specs.Numbers.{is_among}
use Rattle.ww_plain.specs.Meaning.{answer_of}
use Rattle.ww_plain.specs.Transaction.{Transaction, Fits, HasNoDouble}
use Rattle.ww_lock.specs.declared.prepared.Receipt.{Receipt}
use Rattle.ww_lock.specs.declared.acquiring.Lock.{Lock}
use Rattle.ww_lock.specs.declared.acquiring.Lock.TheVariants.{Locked, Already, Deadlk}
use Rattle.ww_lock.specs.declared.interruptible.Interruptible.{Interruptible}
use Rattle.ww_lock.specs.declared.interruptible.Interruptible.TheVariants as stop
use Rattle.ww_lock.specs.declared.interruptible.Halt.{Halt}
use Rattle.ww_lock.specs.declared.interruptible.Halt.TheVariants as halt
use Rattle.ww_lock.specs.declared.acquiring.Try.{Try}
use Rattle.ww_lock.specs.declared.acquiring.Try.TheVariants as try
use Rattle.ww_seat.specs.declared.waiting.NoLock.{NoLock}
use Rattle.ww_seat.specs.declared.waiting.NoLock.TheVariants as seat
use Rattle.ww_seat.specs.declared.waits.Waits.{Waits}
use Rattle.ww_seat.specs.declared.waits.Waits.TheVariants.{UntilCancelled}
use Rattle.ww_view.specs.May.{WantsSigns}
use Rattle.ww_seat.specs.Calls.{MayStop}
use Rattle.ww_lock.specs.Holding.{Holding, Refused, Change, AreBelow}
use Rattle.ww_lock.specs.Making.{Covers}
use Rattle.ww_lock.specs.Carried.{Carried, known_of, held_of, stamp_of, met_of, holding_of, MayStillCommit, MayLock, HasMetSo}

-- one node more is held, with these contents
abbrev pub with_node : Holding → ℕ → Node → Holding
with_node s n x = record s { held = s.held ++ n ∷ []; seen = slice_set s.seen n x }

-- nothing is held any more
abbrev pub emptied : Holding → Holding
emptied s = record s { held = [] }

-- it went to sleep in a wait without looking whether that was cancelled, until it had so often in all
abbrev pub having_slept : Holding → ℕ → Holding
having_slept s k = record s { deaf = k }

-- only a wait to the end does so
abbrev pub IsHeeding : Waits → Holding → Holding → Type 0
IsHeeding waits s a = waits ≡ UntilCancelled → a.deaf ≡ s.deaf

-- one context was started, with a stamp, for one of what was left; it holds nothing
pub record IsBegun (s a : Holding) : Type 0 where
  pub some : 1 ≤ s.left
  pub is_stamped : 1 ≤ a.stamp
  pub nothing : a.held ≡ []
  pub rest : a ≡ record s { left = s.left - 1; draws = s.draws + 1; stamp = a.stamp }

-- it tried once to take a lock at once, in vain
abbrev pub tried : Holding → Holding
tried s = record s { tries = s.tries + 1 }

-- ... and took it, then or after waiting for it
abbrev pub taken : Holding → Holding
taken s = record s { tries = s.tries + 1; takes = s.takes + 1 }

-- ... and had to back off, once
abbrev pub backed_off : Holding → Holding
backed_off s = record s { tries = s.tries + 1; deaths = s.deaths + 1 }

-- a lock was taken without a context, for one of what was left: it is all that is held
pub record IsSolo (s : Holding) (n : ℕ) (a : Holding) : Type 0 where
  pub some : 1 ≤ s.left
  pub contents : Node
  pub rest : a ≡ with_node (taken (record s { left = s.left - 1; deaf = a.deaf })) n contents
  pub alone : a.held ≡ n ∷ []
  pub no_context : a.stamp ≡ 0

-- The node wasn't held, and now is, with some contents, after one try to take its lock at once. It is the one lock that
-- was taken, and the context didn't back off on the way. It may have slept meanwhile.
pub record IsTaken (s : Holding) (n : ℕ) (a : Holding) : Type 0 where
  pub new : is_among n s.held ≡ false
  pub contents : Node
  pub added : a ≡ with_node (taken (having_slept s a.deaf)) n contents

-- The node wasn't held, and for it an older context was met, whose stamp is told. The state still holds what it held,
-- which is one node at least, took no lock on the way, and backed off once.
pub record IsRefused (s : Holding) (n : ℕ) (b : Refused) : Type 0 where
  pub new : is_among n s.held ≡ false
  pub holds : 1 ≤ length s.held
  pub told : b.holding ≡ backed_off (having_slept s b.holding.deaf)
  pub contended : b.contended ≡ n
  pub is_stamp : 1 ≤ b.met
  pub older : b.met < s.stamp

-- once more its wait was cancelled, for this node and by this caller, after one try to take the lock at once
abbrev pub interrupted_by : Holding → ℕ → ℕ → Holding
interrupted_by s n by = record s { tries = s.tries + 1; interrupted = (n, by) ∷ s.interrupted }

-- The node wasn't held, and the wait for it was cancelled by this caller: the seat left the wait list of its lock, for
-- the cancel of that caller, which it had heeded there. The state still holds what it held.
pub record IsInterrupted (s : Holding) (n by : ℕ) (a : Holding) : Type 0 where
  pub new : is_among n s.held ≡ false
  pub told : a ≡ interrupted_by s n by

-- why a lock wasn't taken, told of a node that wasn't held
abbrev pub IsStopOf : Holding → ℕ → NoLock → Holding → Type 0
IsStopOf s n (seat.Deadlk k) a = (a ≡ backed_off (having_slept s a.deaf)) × (1 ≤ k) × (k < s.stamp) × (1 ≤ length s.held)
IsStopOf s n (seat.Interrupted by) a = IsInterrupted s n by a

-- the wait of this caller was cancelled
abbrev pub IsCancelling : Holding → ℕ → Holding → Type 0
IsCancelling s who a = a ≡ record s { cancelled = who ∷ s.cancelled }

-- it tried to cancel the wait of a caller, by one step, and found a cancel of it pending
abbrev pub found_pending : Holding → Holding
found_pending s = record s { pendings = s.pendings + 1 }

-- the answer of a lock call
abbrev pub IsLockAnswer : Holding → ℕ → Lock → Type 0
IsLockAnswer s n (Locked a) = IsTaken s n a
IsLockAnswer s n (Already a) = (is_among n s.held ≡ true) × (a ≡ s)
IsLockAnswer s n (Deadlk b) = IsRefused s n b

-- the error number of the answer, 0 without one
abbrev pub code_of : Lock → ℕ
code_of (Locked a) = 0
code_of (Already a) = 114
code_of (Deadlk b) = 35

-- the state that goes on, where the node is held now; or the one that has to back off
abbrev pub going_on : Lock → Result Holding Refused
going_on (Locked a) = Ok a
going_on (Already a) = Ok a
going_on (Deadlk b) = Err b

-- the answer of a lock call that waits so: only a wait until a cancel is ended by one, and such a wait looks for one each
-- time before it sleeps
abbrev pub IsAnswer : Waits → Holding → ℕ → Interruptible → Type 0
IsAnswer waits s n (stop.Locked a) = IsTaken s n a × IsHeeding waits s a
IsAnswer waits s n (stop.Already a) = (is_among n s.held ≡ true) × (a ≡ s)
IsAnswer waits s n (stop.Deadlk b) = IsRefused s n b × IsHeeding waits s b.holding
IsAnswer waits s n (stop.Interrupted a by) = (waits ≡ UntilCancelled) × IsInterrupted s n by a

-- ... of one that may be cancelled
abbrev pub IsInterruptibleAnswer : Holding → ℕ → Interruptible → Type 0
IsInterruptibleAnswer s n answer = IsAnswer UntilCancelled s n answer

-- its error number, 0 without one
abbrev pub interruptible_code_of : Interruptible → ℕ
interruptible_code_of (stop.Locked a) = 0
interruptible_code_of (stop.Already a) = 114
interruptible_code_of (stop.Deadlk b) = 35
interruptible_code_of (stop.Interrupted a by) = 4

-- the state that goes on, where the node is held now; or why none does
abbrev pub going_on_or_halted : Interruptible → Result Holding Halt
going_on_or_halted (stop.Locked a) = Ok a
going_on_or_halted (stop.Already a) = Ok a
going_on_or_halted (stop.Deadlk b) = Err (halt.Deadlk b)
going_on_or_halted (stop.Interrupted a by) = Err (halt.Interrupted a by)

-- the answer of a trylock: a held node is busy too, and of another that is the answer of one try
abbrev pub IsTryAnswer : Holding → ℕ → Try → Type 0
IsTryAnswer s n (try.Locked a) = IsTaken s n a × (a.deaf ≡ s.deaf)
IsTryAnswer s n (try.Busy a) = (is_among n s.held ≡ true → a ≡ s) × (is_among n s.held ≡ false → a ≡ tried s)

-- One record more in the log, of this caller and of the next number, with the transaction and the answer that were
-- prepared, in the room that was made for it. Its place, which the receipt tells, is above all before.
pub record IsCommitted (s : Holding) (p : Change) (a : Holding) (told : Receipt) : Type 0 where
  pub own : a ≡ record s {
    own = s.own ++ (told.place, record { caller = s.caller; seq = length s.own; transaction = p.transaction; answer = p.answer }) ∷ [];
    room = s.room - 1;
  }
  pub above : AreBelow told.place s.own
  pub seq : told.seq ≡ length s.own
  pub reply : answer_of told.reply ≡ p.answer

-- ---- what a pass carries

-- it has begun a context, and met nothing
pub record HasBegun (c c' : Carried) : Type 0 where
  pub fresh : MayStillCommit c'
  pub begun : holding_of c' ≡ record (holding_of c) { draws = (holding_of c).draws + 1; stamp = stamp_of c' }
  pub stamp : 0 < stamp_of c'
  pub unmet : met_of c' ≡ None

-- it may prepare this transaction, which fits it and names no node twice: it holds all that this depends on and may change
pub record MayPrepare (txn : Transaction) (c : Carried) : Type 0 where
  pub fresh : MayStillCommit c
  pub fits : Fits (length c.seen) txn
  pub no_double : HasNoDouble txn
  pub covers : Covers (holding_of c) txn

-- it may have more room for records, and is otherwise as it was
pub record HasReserved (c c' : Carried) : Type 0 where
  pub fresh : MayStillCommit c'
  pub same : holding_of c' ≡ record (holding_of c) { room = (holding_of c').room }

-- it has just lost its first try for lock n, hasn't made a spin read of it yet, and may go on to wait for it
pub record HasLost (n : ℕ) (c : Carried) : Type 0 where
  pub may : MayLock n c
  pub before : Holding
  pub tried : holding_of c ≡ tried before
  pub glances : (known_of c).glances ≡ 0
  pub signs : WantsSigns (known_of c)

-- what one try to take lock n came to: it has the lock; or it may go on to wait for it
abbrev pub IsTried : Carried → ℕ → Bool → Carried → Type 0
IsTried c n true c' = MayStillCommit c' × IsTaken (holding_of c) n (holding_of c') × (met_of c' ≡ None)
    × ((holding_of c').deaf ≡ (holding_of c).deaf)
IsTried c n false c' = HasLost n c' × (holding_of c' ≡ tried (holding_of c)) × (met_of c' ≡ met_of c)

-- what a call that takes lock n came to, from a state that hadn't tried yet: it has the lock; or why not
abbrev pub HasReturned : Holding → ℕ → Waits → Result (Unit {0}) NoLock → Carried → Type 0
HasReturned s n waits (Ok _) c' = MayStillCommit c' × IsHeeding waits s (holding_of c') × IsTaken s n (holding_of c') × (met_of c' ≡ None)
HasReturned s n waits (Err why) c' = MayStillCommit c' × IsHeeding waits s (holding_of c') × IsStopOf s n why (holding_of c')
    × HasMetSo n why c' × MayStop 16 waits why

-- it holds one node less
pub record HasLetGo (c c' : Carried) : Type 0 where
  pub rest : holding_of c' ≡ record (holding_of c) { held = held_of c' }
  pub fewer : length (held_of c') < length (held_of c)

-- ... or still what it held
abbrev pub HasLetOrKept : Carried → Bool → Carried → Type 0
HasLetOrKept c true c' = HasLetGo c c'
HasLetOrKept c false c' = holding_of c' ≡ holding_of c
