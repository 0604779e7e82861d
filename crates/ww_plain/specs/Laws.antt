-- What holds of the plain graph as a whole.
use Rattle.std.specs.Prelude.{ℕ, ◌≡◌, ◌≢◌, ◌≤◌, ◌↔◌, ◌∷◌, ◌++◌, [], false, List, length, Some, IsTrue}
use Rattle.std.specs.List.{AllByRecursion}
use Rattle.ww_plain.specs.declared.node.Node.{Node}
use Rattle.ww_plain.specs.Numbers.{is_among, AreDifferent}
use Rattle.ww_plain.specs.Graph.{IsGraph, node_at, value_of, port_of, HasAllPorts, AreEmptyFrom, Agree}
use Rattle.ww_plain.specs.Footprint.{footprint_of, Concerns}
use Rattle.ww_plain.specs.Transaction.{Transaction, reverse, Fits, NamesBelow}
use Rattle.ww_plain.specs.Walk.{IsWalk, walk_of, stop_of}
use Rattle.ww_plain.specs.Meaning.{answer_to, graph_after}
use Rattle.ww_plain.specs.History.{Recorded, IsNext, IsLegal, last_graph, part_of}

-- the walk has the properties of a walk, and no other list has them
abbrev pub WalkIsTheOne : Type 0
WalkIsTheOne = (graph : List Node) (start p most : ℕ) → 1 ≤ most →
    IsWalk graph start p most (walk_of graph start p most) ×
    ((vs : List ℕ) → IsWalk graph start p most vs → vs ≡ walk_of graph start p most)

-- what a transaction leaves is a graph of the same size
abbrev pub TransactionKeepsGraph : Type 0
TransactionKeepsGraph = (graph : List Node) (txn : Transaction) → IsGraph graph → Fits (length graph) txn →
    IsGraph (graph_after graph txn) × (length (graph_after graph txn) ≡ length graph)

-- no node outside a transaction's footprint changes
abbrev pub OnlyFootprintChanges : Type 0
OnlyFootprintChanges = (graph : List Node) (txn : Transaction) (n : ℕ) → is_among n (footprint_of graph txn) ≡ false →
    node_at (graph_after graph txn) n ≡ node_at graph n

-- two graphs give the same footprint, the same answer, and the same nodes in the footprint
pub record IsSameInside (graph other : List Node) (txn : Transaction) : Type 0 where
  pub footprint : footprint_of other txn ≡ footprint_of graph txn
  pub answer : answer_to other txn ≡ answer_to graph txn
  pub agree : Agree (graph_after graph txn) (graph_after other txn) (footprint_of graph txn)

-- only the nodes in a transaction's footprint matter for it
abbrev pub OnlyFootprintMatters : Type 0
OnlyFootprintMatters = (graph other : List Node) (txn : Transaction) → Fits (length graph) txn →
    length graph ≡ length other → Agree graph other (footprint_of graph txn) → IsSameInside graph other txn

-- a footprint names each node that concerns the transaction, once, and no other
abbrev pub FootprintIsWhatConcerns : Type 0
FootprintIsWhatConcerns = (graph : List Node) (txn : Transaction) → Fits (length graph) txn →
    AreDifferent (footprint_of graph txn) ×
    ((n : ℕ) → IsTrue (is_among n (footprint_of graph txn)) ↔ Concerns graph txn n)

-- Port p of the walk's first node leads to where that of its last one led, port p of each other one to the node before
-- it, and all else is as it was.
pub record IsTurned (graph after : List Node) (start p : ℕ) (walk : List ℕ) : Type 0 where
  pub first : port_of after start p ≡ stop_of graph p walk
  pub next : (front rest : List ℕ) (v w : ℕ) → walk ≡ front ++ v ∷ w ∷ rest → port_of after w p ≡ Some v
  pub others : (n : ℕ) → is_among n walk ≡ false → node_at after n ≡ node_at graph n
  pub values : (n : ℕ) → value_of after n ≡ value_of graph n
  pub other_ports : (n q : ℕ) → q ≢ p → port_of after n q ≡ port_of graph n q

-- a `Reverse` turns its walk, and changes nothing else
abbrev pub ReverseTurnsTheWalk : Type 0
ReverseTurnsTheWalk = (graph : List Node) (start p most : ℕ) → IsGraph graph → AllByRecursion HasAllPorts graph →
    Fits (length graph) (reverse start p most) →
    IsTurned graph (graph_after graph (reverse start p most)) start p (walk_of graph start p most)

-- where the ports from some number on are empty, a transaction that names none of them leaves them so
abbrev pub UnusedPortsStayEmpty : Type 0
UnusedPortsStayEmpty = (graph : List Node) (txn : Transaction) (used : ℕ) → NamesBelow used txn →
    AreEmptyFrom used graph → AreEmptyFrom used (graph_after graph txn)

-- a history in two parts is legal where the first is, and the second from where the first ends
abbrev pub HistoryGoesOn : Type 0
HistoryGoesOn = (graph : List Node) (front rest : List Recorded) →
    (IsLegal graph (front ++ rest) ↔ (IsLegal graph front × IsLegal (last_graph graph front) rest)) ×
    (last_graph graph (front ++ rest) ≡ last_graph (last_graph graph front) rest)

-- one record more
pub record GrowsBy (graph : List Node) (history : List Recorded) (r : Recorded) : Type 0 where
  pub legal : IsLegal graph (history ++ r ∷ []) ↔ (IsLegal graph history × IsNext (last_graph graph history) r)
  pub ends : last_graph graph (history ++ r ∷ []) ≡ graph_after (last_graph graph history) r.transaction
  pub own_part : part_of r.caller (history ++ r ∷ []) ≡ part_of r.caller history ++ (length history, r) ∷ []
  pub other_parts : (caller : ℕ) → caller ≢ r.caller → part_of caller (history ++ r ∷ []) ≡ part_of caller history

-- a record more takes the next place, follows from the graph so far, and joins its caller's part alone
abbrev pub HistoryGrows : Type 0
HistoryGrows = (graph : List Node) (history : List Recorded) (r : Recorded) → GrowsBy graph history r
