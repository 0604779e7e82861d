-- What scripts do, and how it is written.
use Rattle.std.specs.Prelude.{ℕ, ◌<◌, List, [], ◌∷◌, codes, bytes_eq, Result, Ok, Err, if◌then◌else◌}
use Rattle.serde_json.specs.Data.{Data}
use Rattle.ww_plain.specs.Transaction.{Transaction, transaction_of, peek, Fits, NamesBelow}
use Rattle.ww_json.specs.declared.fault.InputFault.{InputFault}
use Rattle.ww_json.specs.declared.fault.InputFault.TheVariants.{BadWord}
use Rattle.ww_json.specs.Parts.{◌>>=◌, array, text, below}
use Rattle.ww_script_parts.specs.declared.ranges.Ranges.{Ranges}
use Rattle.ww_script_parts.specs.declared.acts.Act.{Act}
use Rattle.ww_script_parts.specs.declared.acts.Act.TheVariants.{Do, Interruptible, Cancel}
use Rattle.ww_script_parts.specs.Transactions.{transaction_worded, locking_in}

-- an `Act`, with what its transaction asks for
pub data Action : Type 0 where
  does : Transaction → Action
  interruptible : Transaction → Action
  cancels : ℕ → Action

abbrev pub deed_of : Act → Action
deed_of (Do txn) = does (transaction_of txn)
deed_of (Interruptible txn) = interruptible (transaction_of txn)
deed_of (Cancel script) = cancels script

-- the transaction takes locks, as each does but a peek
abbrev pub TakesLocks : Transaction → Type 0
TakesLocks (peek node) = ⊥
TakesLocks _ = Unit {0}

-- the transaction's nodes and port are in range
abbrev pub IsWithin : Ranges → Transaction → Type 0
IsWithin ranges txn = Fits ranges.nodes txn × NamesBelow ranges.ports txn

-- what the act names is in range, and what may be cancelled takes locks
abbrev pub IsActWithin : Ranges → Action → Type 0
IsActWithin ranges (does txn) = IsWithin ranges txn
IsActWithin ranges (interruptible txn) = IsWithin ranges txn × TakesLocks txn
IsActWithin ranges (cancels script) = script < ranges.scripts

-- what follows the word `cancel`
abbrev pub cancel_of : ℕ → List Data → Result Action InputFault
cancel_of count (script ∷ []) = do
  s ← below count script
  Ok (cancels s)
cancel_of count _ = Err BadWord

-- what follows the word `interruptible`
abbrev pub interruptible_of : Ranges → List Data → Result Action InputFault
interruptible_of ranges (txn ∷ []) = do
  t ← locking_in ranges txn
  Ok (interruptible t)
interruptible_of ranges _ = Err BadWord

-- what follows this word
abbrev pub worded : Ranges → List ℕ → List Data → Result Action InputFault
worded ranges word members =
    if bytes_eq word (codes "cancel") then cancel_of ranges.scripts members
    else if bytes_eq word (codes "interruptible") then interruptible_of ranges members
    else (transaction_worded ranges word members >>= λ t. Ok (does t))

-- a word, and then the members that it asks for
abbrev pub act_from : Ranges → List Data → Result Action InputFault
act_from ranges [] = Err BadWord
act_from ranges (first ∷ members) = do
  word ← text first
  worded ranges word members

-- an array that begins with a word
unfoldable pub act_in : Ranges → Data → Result Action InputFault
act_in ranges d = array d >>= act_from ranges
