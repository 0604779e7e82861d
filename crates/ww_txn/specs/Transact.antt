-- What becomes of a transaction, and of the pass that it is given.
use Rattle.std.specs.Prelude.{ℕ, ◌≡◌, ◌∷◌, ◌++◌, [], length, Some, None, Result, Ok, Err}
use Rattle.ww_plain.specs.Transaction.{Transaction, peek, listed, Fits, FirstDouble}
use Rattle.ww_plain.specs.Meaning.{answer_of}
use Rattle.ww_lock.specs.declared.prepared.Receipt.{Receipt}
use Rattle.ww_lock.specs.Waits.{Waits}
use Rattle.ww_lock.specs.Waits.TheVariants.{UntilCancelled}
use Rattle.ww_lock.specs.Holding.{Holding, Setting, IsAtHome, AreBelow}
use Rattle.ww_lock.specs.Making.{Covers}
use Rattle.ww_users.specs.declared.fault.UserFault.{UserFault}
use Rattle.ww_users.specs.declared.fault.UserFault.TheVariants as user
use Rattle.ww_users.specs.Ways.{IsReturned, IsCalledOff}
use Rattle.ww_txn.specs.declared.telling.GateCalls.{GateCalls}
use Rattle.ww_txn.specs.declared.telling.GateCalls.TheVariants.{Untold, Answered}
use Rattle.ww_txn.specs.declared.transacting.TxnFault.{TxnFault}
use Rattle.ww_txn.specs.declared.transacting.TxnFault.TheVariants.{PassSpent, Already, Interrupted, NoMemory}

-- how many contexts making it begins: none for a peek, else one
abbrev pub contexts_of : Transaction → ℕ
contexts_of (peek node) = 0
contexts_of _ = 1

-- the state came from a pass of this world, of whose graph the transaction's numbers are
pub record MayTransact (txn : Transaction) (s : Holding) (w : Setting) : Type 0 where
  pub home : IsAtHome s w
  pub fits : Fits (length w.first) txn

-- one record more, of this transaction, with the place, the number and the answer that the receipt tells
abbrev pub having_recorded : Transaction → Receipt → Holding → Holding
having_recorded txn told s = record s {
  own = s.own ++
      (told.place, record { caller = s.caller; seq = length s.own; transaction = txn; answer = answer_of told.reply }) ∷ [];
}

-- Exactly one record more, at a place above all others. The pass holds no lock, has one context less to start, and has begun
-- so many more.
pub record IsRecorded (s : Holding) (begun : ℕ) (txn : Transaction) (a : Holding) (told : Receipt) : Type 0 where
  pub back : IsReturned (having_recorded txn told s) begun a
  pub above : AreBelow told.place s.own
  pub seq : told.seq ≡ length s.own

-- ... by a transaction that names no node twice, which begins as many contexts as such a transaction does
abbrev pub IsTransacted : Holding → Holding → Transaction → Receipt → Type 0
IsTransacted s a txn told = FirstDouble (listed txn) None × IsRecorded s (contexts_of txn) txn a told

-- Why nothing was recorded: first comes that the pass has no context left. Then a duplicate is reported, or that a wait
-- was cancelled, whichever is met first; the latter only of a transaction that waits until a cancel.
abbrev pub IsTxnFault : Waits → Holding → Transaction → Holding → TxnFault → Type 0
IsTxnFault waits s txn a PassSpent = (s.left ≡ 0) × (a ≡ s)
IsTxnFault waits s txn a (Already n) = FirstDouble (listed txn) (Some n) × IsReturned s (contexts_of txn) a
IsTxnFault waits s txn a (Interrupted by) = (waits ≡ UntilCancelled) × IsCalledOff s by a
IsTxnFault waits s txn a NoMemory = FirstDouble (listed txn) None × IsReturned s (contexts_of txn) a

-- Ok: exactly one record more: that of this transaction, with the place, the number and the answer that the receipt tells;
-- the pass holds no lock. Err: why nothing was recorded: first comes that the pass has no context left, then a duplicate, or
-- that a wait was called off, whichever is met first.
abbrev pub IsTxnAnswer : Waits → Holding → Transaction → Holding → Result Receipt TxnFault → Type 0
IsTxnAnswer waits s txn a (Ok told) = IsTransacted s a txn told
IsTxnAnswer waits s txn a (Err fault) = IsTxnFault waits s txn a fault

-- a gate was told of a transaction to its end, or not at all
abbrev pub stage_of : Result Receipt TxnFault → GateCalls
stage_of (Ok told) = Answered
stage_of (Err fault) = Untold

abbrev pub txn_number : TxnFault → ℕ
txn_number PassSpent = 4
txn_number (Already n) = 9
txn_number (Interrupted by) = 20
txn_number NoMemory = 6

-- why a list wasn't locked, as why its transaction wasn't made
abbrev pub fault_of : UserFault → TxnFault
fault_of user.PassSpent = PassSpent
fault_of (user.Already n) = Already n
fault_of (user.Interrupted by) = Interrupted by

-- it holds all that the transaction depends on and may change, which names no node twice
abbrev pub HoldsFootprint : Transaction → Holding → Type 0
HoldsFootprint txn a = FirstDouble (listed txn) None × Covers a txn
