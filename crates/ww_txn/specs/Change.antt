-- What becomes of a transaction that is decided on under its locks. What the closure answers to the values of the listed
-- nodes is told by a relation between those values and an answer.
use Rattle.std.specs.Prelude.{ℕ, ◌≡◌, List, length, map, Option, Some, None, Result, Ok, Err, IsTrue}
use Rattle.std.specs.List.{AllByRecursion}
use Rattle.ww_plain.specs.declared.node.Node.{Node}
use Rattle.ww_plain.specs.declared.transaction.Txn.{Txn}
use Rattle.ww_plain.specs.Graph.{value_of}
use Rattle.ww_plain.specs.Numbers.{is_among}
use Rattle.ww_plain.specs.Transaction.{Transaction, transaction_of, Fits, HasNoDouble, FirstDouble}
use Rattle.ww_plain.specs.Meaning.{answer_of, answer_to}
use Rattle.ww_plain.specs.Footprint.{footprint_of}
use Rattle.ww_lock.specs.declared.prepared.Receipt.{Receipt}
use Rattle.ww_lock.specs.Holding.{Holding, Change}
use Rattle.ww_lock.specs.Making.{IsMadeOf}
use Rattle.ww_users.specs.Ways.{IsReturned}
use Rattle.ww_txn.specs.declared.changing.ChangeFault.{ChangeFault}
use Rattle.ww_txn.specs.declared.changing.ChangeFault.TheVariants.{PassSpent, Already, Declined, NotServed, NoMemory}
use Rattle.ww_txn.specs.Transact.{IsRecorded}

-- the values of the listed nodes, in the order of the list
abbrev pub values_of : List Node → List ℕ → List ℕ
values_of seen list = map (value_of seen) list

-- the answers that a closure may give to the values of some nodes
abbrev pub Deciding : Type 1
Deciding = List ℕ → Option Txn → Type 0

-- the transaction fits these nodes, names no node twice, and the list has all that it depends on and may change
pub record IsAnswerable (list : List ℕ) (seen : List Node) (txn : Transaction) : Type 0 where
  pub fits : Fits (length seen) txn
  pub no_double : HasNoDouble txn
  pub covers : AllByRecursion (λ n. IsTrue (is_among n list)) (footprint_of seen txn)

-- what was prepared is a transaction that was answered to the values of the listed nodes
pub record IsDecided (Decides : Deciding) (list : List ℕ) (d : Holding) (p : Change) : Type 0 where
  pub txn : Txn
  pub decided : Decides (values_of d.seen list) (Some txn)
  pub served : IsAnswerable list d.seen (transaction_of txn)
  pub made : IsMadeOf d p (transaction_of txn)

-- why nothing was prepared, once the nodes were held as they were seen
abbrev pub IsUndecided : Deciding → List ℕ → List Node → ChangeFault → Type 0
IsUndecided Decides list seen Declined = Decides (values_of seen list) None
IsUndecided Decides list seen (NotServed txn) = Decides (values_of seen list) (Some txn) × (IsAnswerable list seen (transaction_of txn) → ⊥)
IsUndecided Decides list seen NoMemory = (txn : Txn) × Decides (values_of seen list) (Some txn) × IsAnswerable list seen (transaction_of txn)
IsUndecided Decides list seen _ = ⊥

-- what is decided on the values of the nodes that this state holds, or why nothing is
abbrev pub IsDecision : Deciding → List ℕ → Holding → Result Change ChangeFault → Type 0
IsDecision Decides list d (Ok p) = IsDecided Decides list d p
IsDecision Decides list d (Err fault) = IsUndecided Decides list d.seen fault

-- Exactly one record more: that of the transaction that was answered to the values of the listed nodes, as they were when
-- they were locked. One context more was begun.
pub record IsDecidedBy (Decides : Deciding) (s : Holding) (list : List ℕ) (a : Holding) (told : Receipt) : Type 0 where
  pub no_double : FirstDouble list None
  pub txn : Txn
  pub decided : Decides (values_of a.seen list) (Some txn)
  pub served : IsAnswerable list a.seen (transaction_of txn)
  pub answer : answer_of told.reply ≡ answer_to a.seen (transaction_of txn)
  pub recorded : IsRecorded s 1 (transaction_of txn) a told

-- Why nothing was recorded: first it is looked whether the pass has a context left, then whether a node is named twice.
abbrev pub IsChangeFault : Deciding → Holding → List ℕ → Holding → ChangeFault → Type 0
IsChangeFault Decides s list a PassSpent = (s.left ≡ 0) × (a ≡ s)
IsChangeFault Decides s list a (Already n) = FirstDouble list (Some n) × IsReturned s 1 a
IsChangeFault Decides s list a fault = FirstDouble list None × IsReturned s 1 a × IsUndecided Decides list a.seen fault

-- what becomes of a transaction that is decided on under its locks
abbrev pub IsChangeAnswer : Deciding → Holding → List ℕ → Holding → Result Receipt ChangeFault → Type 0
IsChangeAnswer Decides s list a (Ok told) = IsDecidedBy Decides s list a told
IsChangeAnswer Decides s list a (Err fault) = IsChangeFault Decides s list a fault
