-- How the transactions of an input are written.
use Rattle.std.specs.Prelude.{ℕ, List, [], ◌∷◌, codes, bytes_eq, Option, Some, None, is_some, Result, Ok, Err, if◌then◌else◌}
use Rattle.serde_json.specs.Data.{Data}
use Rattle.serde_json.specs.Find.{as_null}
use Rattle.ww_plain.specs.declared.graph.TheConstants.{MAX_NODES}
use Rattle.ww_plain.specs.declared.transaction.By.{By}
use Rattle.ww_plain.specs.declared.transaction.By.TheVariants as by
use Rattle.ww_plain.specs.Transaction.{Transaction, get, add, move, link, sum, reverse, peek}
use Rattle.ww_script_parts.specs.declared.ranges.Ranges.{Ranges}
use Rattle.ww_json.specs.declared.fault.InputFault.{InputFault}
use Rattle.ww_json.specs.declared.fault.InputFault.TheVariants.{BadWord}
use Rattle.ww_json.specs.Parts.{◌>>=◌, array, text, number, below, ranged, counted, each}

-- a word for the way of taking many locks
unfoldable pub by_in : Data → Result By InputFault
by_in d = do
  word ← text d
  if bytes_eq word (codes "list") then Ok by.List
      else if bytes_eq word (codes "order") then Ok by.Order
      else Err BadWord

-- what follows the word `get`
abbrev pub get_of : ℕ → List Data → Result Transaction InputFault
get_of size (by ∷ nodes ∷ []) = do
  b ← by_in by
  ds ← counted 1 MAX_NODES nodes
  ns ← each (below size) ds
  Ok (get b ns)
get_of size _ = Err BadWord

-- two items, a node and an amount
abbrev pub pair_of : ℕ → List Data → Result (ℕ × ℕ) InputFault
pair_of size (node ∷ amount ∷ []) = do
  n ← below size node
  k ← number amount
  Ok (n, k)
pair_of size _ = Err BadWord

-- an array of a node and an amount
unfoldable pub pair_in : ℕ → Data → Result (ℕ × ℕ) InputFault
pair_in size d = array d >>= pair_of size

-- what follows the word `add`
abbrev pub add_of : ℕ → List Data → Result Transaction InputFault
add_of size (by ∷ pairs ∷ []) = do
  b ← by_in by
  ds ← counted 1 MAX_NODES pairs
  ps ← each (pair_in size) ds
  Ok (add b ps)
add_of size _ = Err BadWord

-- what follows the word `move`
abbrev pub move_of : ℕ → List Data → Result Transaction InputFault
move_of size (from ∷ to ∷ amount ∷ []) = do
  a ← below size from
  b ← below size to
  k ← number amount
  Ok (move a b k)
move_of size _ = Err BadWord

-- null, or one of so many nodes
unfoldable pub target_in : ℕ → Data → Result (Option ℕ) InputFault
target_in size d = if is_some (as_null d) then Ok None else (below size d >>= λ n. Ok (Some n))

-- what follows the word `link`
abbrev pub link_of : Ranges → List Data → Result Transaction InputFault
link_of ranges (node ∷ port ∷ target ∷ []) = do
  n ← below ranges.nodes node
  p ← below ranges.ports port
  t ← target_in ranges.nodes target
  Ok (link n p t)
link_of ranges _ = Err BadWord

-- where a walk starts, along which port it leads, and its greatest length
abbrev pub course_of : Ranges → List Data → Result (ℕ × ℕ × ℕ) InputFault
course_of ranges (start ∷ port ∷ length ∷ []) = do
  s ← below ranges.nodes start
  p ← below ranges.ports port
  n ← ranged 1 MAX_NODES length
  Ok (s, p, n)
course_of ranges _ = Err BadWord

-- what follows the word `sum`
unfoldable pub sum_of : Ranges → List Data → Result Transaction InputFault
sum_of ranges members = do
  c ← course_of ranges members
  Ok (sum c.0 c.1 c.2)

-- what follows the word `reverse`
unfoldable pub reverse_of : Ranges → List Data → Result Transaction InputFault
reverse_of ranges members = do
  c ← course_of ranges members
  Ok (reverse c.0 c.1 c.2)

-- what follows the word `peek`
abbrev pub peek_of : ℕ → List Data → Result Transaction InputFault
peek_of size (node ∷ []) = do
  n ← below size node
  Ok (peek n)
peek_of size _ = Err BadWord

-- what follows this word, of a transaction that takes locks
abbrev pub locking_worded : Ranges → List ℕ → List Data → Result Transaction InputFault
locking_worded ranges word members =
    if bytes_eq word (codes "get") then get_of ranges.nodes members
    else if bytes_eq word (codes "add") then add_of ranges.nodes members
    else if bytes_eq word (codes "move") then move_of ranges.nodes members
    else if bytes_eq word (codes "link") then link_of ranges members
    else if bytes_eq word (codes "sum") then sum_of ranges members
    else if bytes_eq word (codes "reverse") then reverse_of ranges members
    else Err BadWord

-- what follows this word, of any transaction
abbrev pub transaction_worded : Ranges → List ℕ → List Data → Result Transaction InputFault
transaction_worded ranges word members =
    if bytes_eq word (codes "peek") then peek_of ranges.nodes members else locking_worded ranges word members

-- a word, and then the members that it asks for
abbrev pub locking_from : Ranges → List Data → Result Transaction InputFault
locking_from ranges [] = Err BadWord
locking_from ranges (first ∷ members) = do
  word ← text first
  locking_worded ranges word members

-- an array that begins with a word: a transaction that takes locks
unfoldable pub locking_in : Ranges → Data → Result Transaction InputFault
locking_in ranges d = array d >>= locking_from ranges
