-- A transaction keeps a graph a graph.
use Rattle.std.proofs.Common.{◌≡◌, ℕ, ◌+◌, ◌-◌, ◌%◌, ◌^◌, ◌<◌, ◌≤◌, nat_lt, inl, inr, List, [], ◌∷◌, length, fold, Option, Some, IfSome, refl, sym, subst, ◌∙◌, arith, length-set}
use Rattle.std.specs.List.{AllByRecursion}
use Rattle.ww_plain.specs.declared.node.Node.{Node}
use Rattle.ww_plain.specs.Graph.{no_node, node_at, value_of, with_value, with_port, IsNodeOf, IsGraph}
use Rattle.ww_plain.specs.Transaction.{Transaction, get, add, move, link, sum, reverse, peek, Fits}
use Rattle.ww_plain.specs.Walk.{walk_of, stop_of, last_of}
use Rattle.ww_plain.specs.Meaning.{raised, moving, turned, graph_after}
use Rattle.ww_plain.proofs.Members.{true_or_false}
use Rattle.ww_plain.proofs.GraphFacts.{all_at, all_set, port_is_there}
use Rattle.ww_plain.proofs.FootprintFacts.{AreBelow, walk_below}

-- so many nodes, of which each port names one of them
pub record IsSized (size : ℕ) (graph : List Node) : Type 0 where
  pub length_is : length graph ≡ size
  pub closed : AllByRecursion (IsNodeOf size) graph

node_is_of : (size : ℕ) (graph : List Node) (n : ℕ) → IsSized size graph → IsNodeOf size (node_at graph n)
node_is_of size graph n h = all_at (IsNodeOf size) graph n no_node tt h.closed

sized_value : (size : ℕ) (graph : List Node) (n value : ℕ) → IsSized size graph → IsSized size (with_value graph n value)
sized_value size graph n value h = record {
  length_is = length-set graph n (record (node_at graph n) { value = value }) ∙ h.length_is;
  closed = all_set (IsNodeOf size) graph n (record (node_at graph n) { value = value }) (node_is_of size graph n h) h.closed;
}

sized_port : (size : ℕ) (graph : List Node) (n p : ℕ) (target : Option ℕ) → IsSized size graph
    → IfSome target (λ t. t < size) → IsSized size (with_port graph n p target)
sized_port size graph n p target h there = record {
  length_is = length-set graph n _ ∙ h.length_is;
  closed = all_set (IsNodeOf size) graph n _
      (all_set (λ port. IfSome port (λ t. t < size)) (node_at graph n).ports p target there
      (node_is_of size graph n h)) h.closed;
}

pub sized_added : (size : ℕ) (graph : List Node) (amounts : List (ℕ × ℕ)) → IsSized size graph → IsSized size (fold raised graph amounts)
sized_added size graph [] h = h
sized_added size graph (pair ∷ pairs) h =
    sized_added size (raised graph pair) pairs
    (sized_value size graph pair.0 ((value_of graph pair.0 + pair.1) % 2 ^ 64) h)

pub sized_moving : (size : ℕ) (graph : List Node) (from to amount : ℕ) → IsSized size graph → IsSized size ((moving graph from to amount).1)
sized_moving size graph from to amount h = elim (true_or_false (nat_lt (value_of graph from) amount)) [
  | inl short ↦ rw short h
  | inr enough ↦ rw enough (elim (true_or_false (nat_lt (2 ^ 64 - 1) (value_of graph to + amount))) [
    | inl full ↦ rw full h
    | inr room ↦ rw room (sized_value size (with_value graph from (value_of graph from - amount)) to
        (value_of graph to + amount) (sized_value size graph from (value_of graph from - amount) h))
  ])
]

pub sized_turned : (size : ℕ) (graph : List Node) (p : ℕ) (before : Option ℕ) (vs : List ℕ) → IsSized size graph
    → IfSome before (λ t. t < size) → AreBelow size vs → IsSized size (turned graph p before vs)
sized_turned size graph p before [] h there below = h
sized_turned size graph p before (v ∷ vs) h there below =
    sized_turned size (with_port graph v p before) p (Some v) vs (sized_port size graph v p before h there) below.0
    below.1

pub sized_graph : (graph : List Node) → IsGraph graph → IsSized (length graph) graph
sized_graph graph h = record { length_is = refl; closed = h.closed }

pub graph_from_sized : (graph new : List Node) → IsGraph graph → IsSized (length graph) new → IsGraph new
graph_from_sized graph new h sized = record {
  some = omega (arith, h.some, sized.length_is);
  few = omega (arith, h.few, sized.length_is);
  closed = subst (λ (size : ℕ). AllByRecursion (IsNodeOf size) new) (sym sized.length_is) sized.closed;
}

pub sized_turning : (graph : List Node) (start p most : ℕ) → IsGraph graph → start < length graph → 1 ≤ most
    → IsSized (length graph) (turned graph p (stop_of graph p (walk_of graph start p most)) (walk_of graph start p most))
sized_turning graph start p most h here some =
    sized_turned (length graph) graph p (stop_of graph p (walk_of graph start p most)) (walk_of graph start p most)
    (sized_graph graph h) (port_is_there graph (last_of (walk_of graph start p most)) p h.closed)
    (walk_below graph start p most h here some)

pub sized_after : (graph : List Node) (txn : Transaction) → IsGraph graph → Fits (length graph) txn
    → IsSized (length graph) (graph_after graph txn)
sized_after graph (get by nodes) h fits = sized_graph graph h
sized_after graph (add by amounts) h fits = sized_added (length graph) graph amounts (sized_graph graph h)
sized_after graph (move from to amount) h fits = sized_moving (length graph) graph from to amount (sized_graph graph h)
sized_after graph (link node port target) h fits = sized_port (length graph) graph node port target (sized_graph graph h) fits.2
sized_after graph (sum start p most) h fits = sized_graph graph h
sized_after graph (reverse start p most) h fits = sized_turning graph start p most h fits.starts fits.some
sized_after graph (peek node) h fits = sized_graph graph h

-- what a transaction leaves is a graph
pub keeps_graph : (graph : List Node) (txn : Transaction) → IsGraph graph → Fits (length graph) txn → IsGraph (graph_after graph txn)
keeps_graph graph txn h fits = graph_from_sized graph (graph_after graph txn) h (sized_after graph txn h fits)
