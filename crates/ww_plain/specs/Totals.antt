-- The total of a graph's values, and which transactions keep it.
use Rattle.std.specs.Prelude.{ℕ, ◌≡◌, ◌≢◌, Bool, true, false, List, length, sum_by, IsTrue}
use Rattle.std.specs.List.{AllByRecursion}
use Rattle.ww_plain.specs.declared.node.Node.{Node}
use Rattle.ww_plain.specs.Transaction.{Transaction, get, add, move, sum, peek, Fits, HasNoDouble}
use Rattle.ww_plain.specs.Meaning.{moved, answer_to, graph_after}
use Rattle.ww_plain.specs.History.{Recorded, IsLegal, last_graph}

-- the sum of all values, as a natural number: it may be above 2^64 - 1
abbrev pub total_of : List Node → ℕ
total_of graph = sum_by (λ node. node.value) graph

abbrev pub is_move : Transaction → Bool
is_move (move from to amount) = true
is_move _ = false

abbrev pub is_add : Transaction → Bool
is_add (add by amounts) = true
is_add _ = false

-- the transaction asks for values alone
abbrev pub is_read : Transaction → Bool
is_read (get by nodes) = true
is_read (sum start port length) = true
is_read (peek node) = true
is_read _ = false

-- each record is a `Move`
abbrev pub AreMoves : List Recorded → Type 0
AreMoves history = AllByRecursion (λ r. IsTrue (is_move r.transaction)) history

-- no record is an `Add`
abbrev pub HasNoAdd : List Recorded → Type 0
HasNoAdd history = AllByRecursion (λ r. is_add r.transaction ≡ false) history

-- a `Move` between two nodes of the graph keeps the total, whatever it is answered
abbrev pub MoveKeepsTotal : Type 0
MoveKeepsTotal = (graph : List Node) (from to amount : ℕ) → Fits (length graph) (move from to amount)
    → HasNoDouble (move from to amount) → total_of (graph_after graph (move from to amount)) ≡ total_of graph

-- a `Move` that isn't answered *moved* leaves the graph as it was
abbrev pub RefusedMoveChangesNothing : Type 0
RefusedMoveChangesNothing = (graph : List Node) (from to amount : ℕ)
    → answer_to graph (move from to amount) ≢ moved → graph_after graph (move from to amount) ≡ graph

-- what asks for values alone leaves the graph as it was
abbrev pub ReadsChangeNothing : Type 0
ReadsChangeNothing = (graph : List Node) (txn : Transaction) → IsTrue (is_read txn) → graph_after graph txn ≡ graph

-- each transaction but an `Add` keeps the total
abbrev pub OnlyAddsChangeTotal : Type 0
OnlyAddsChangeTotal = (graph : List Node) (txn : Transaction) → Fits (length graph) txn → HasNoDouble txn
    → is_add txn ≡ false → total_of (graph_after graph txn) ≡ total_of graph

-- a legal history without an `Add` ends with the total that it began with
abbrev pub OnlyAddsChangeTotals : Type 0
OnlyAddsChangeTotals = (graph : List Node) (history : List Recorded) → IsLegal graph history → HasNoAdd history
    → total_of (last_graph graph history) ≡ total_of graph

-- a legal history of which each record is a `Move` ends with the total that it began with
abbrev pub MovesKeepTotal : Type 0
MovesKeepTotal = (graph : List Node) (history : List Recorded) → IsLegal graph history → AreMoves history
    → total_of (last_graph graph history) ≡ total_of graph
