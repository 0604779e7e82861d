-- What `reverse` leaves of a walk.
use Rattle.std.proofs.Common.{◌≡◌, ℕ, zero, suc, ◌<◌, false, List, [], ◌∷◌, ◌++◌, length, get_or, set, Option, Some, None, refl, ap, subst, ◌∙◌, arith, length-set, get_or-set_other}
use Rattle.std.specs.List.{AllByRecursion}
use Rattle.std.proofs.lemmas.List.{get_or-set_same}
use Rattle.ww_plain.specs.declared.node.Node.{Node}
use Rattle.ww_plain.specs.declared.node.TheConstants.{PORTS}
use Rattle.ww_plain.specs.Numbers.{is_among, AreDifferent}
use Rattle.ww_plain.specs.Graph.{HasAllPorts, IsGraph, no_node, node_at, port_of, with_port}
use Rattle.ww_plain.specs.Transaction.{reverse, IsCourse}
use Rattle.ww_plain.specs.Walk.{BeginsWith, stop_of, walk_of}
use Rattle.ww_plain.specs.Meaning.{turned, graph_after}
use Rattle.ww_plain.specs.Laws.{IsTurned}
use Rattle.ww_plain.proofs.Members.{different_head, different_tail}
use Rattle.ww_plain.proofs.GraphFacts.{all_item}
use Rattle.ww_plain.proofs.Walks.{gives_walk}
use Rattle.ww_plain.proofs.FootprintFacts.{AreBelow, walk_below}
use Rattle.ww_plain.proofs.Frames.{outside_turned}

-- ---- what stays

-- what the new node has like the old one, each position has like before
kept_set : {X : Type 0} (part : Node → X) (graph : List Node) (v n : ℕ) (node : Node)
    → part node ≡ part (node_at graph v) → part (node_at (set graph v node) n) ≡ part (node_at graph n)
kept_set part [] v n node e = refl
kept_set part (x ∷ xs) zero zero node e = e
kept_set part (x ∷ xs) zero (suc n) node e = refl
kept_set part (x ∷ xs) (suc v) zero node e = refl
kept_set part (x ∷ xs) (suc v) (suc n) node e = kept_set part xs v n node e

-- what doesn't depend on port p stays at each node
kept_turned : {X : Type 0} (part : Node → X) (p : ℕ)
    → ((node : Node) (target : Option ℕ) → part (record node { ports = set node.ports p target }) ≡ part node)
    → (graph : List Node) (before : Option ℕ) (vs : List ℕ) (n : ℕ) → part (node_at (turned graph p before vs) n) ≡ part (node_at graph n)
kept_turned part p same graph before [] n = refl
kept_turned part p same graph before (v ∷ vs) n =
    kept_turned part p same (with_port graph v p before) (Some v) vs n ∙ kept_set part graph v n _ (same (node_at graph v) before)

-- ---- what turns

-- the node is there and has a port p
record HasPort (graph : List Node) (p n : ℕ) : Type 0 where
  there : n < length graph
  port : p < length (node_at graph n).ports

has_port_still : (graph : List Node) (p v : ℕ) (target : Option ℕ) (n : ℕ) → HasPort graph p n → HasPort (with_port graph v p target) p n
has_port_still graph p v target n h = record {
  there = omega (arith, h.there, length-set graph v (record (node_at graph v) { ports = set (node_at graph v).ports p target }));
  port = omega (
    arith,
    h.port,
    kept_set (λ node. length node.ports) graph v n
        (record (node_at graph v) { ports = set (node_at graph v).ports p target })
        (length-set (node_at graph v).ports p target),
  );
}

have_ports_still : (graph : List Node) (p v : ℕ) (target : Option ℕ) (ns : List ℕ)
    → AllByRecursion (HasPort graph p) ns → AllByRecursion (HasPort (with_port graph v p target) p) ns
have_ports_still graph p v target [] h = tt
have_ports_still graph p v target (n ∷ ns) h = (has_port_still graph p v target n h.0, have_ports_still graph p v target ns h.1)

port_set : (graph : List Node) (p v : ℕ) (target : Option ℕ) → HasPort graph p v → port_of (with_port graph v p target) v p ≡ target
port_set graph p v target h =
    ap (λ (node : Node). get_or node.ports p None)
    (get_or-set_same graph v (record (node_at graph v) { ports = set (node_at graph v).ports p target }) no_node
    h.there)
    ∙ get_or-set_same (node_at graph v).ports p target None h.port

first_turned : (graph : List Node) (p : ℕ) (before : Option ℕ) (v : ℕ) (ws : List ℕ) → HasPort graph p v
    → is_among v ws ≡ false → port_of (turned graph p before (v ∷ ws)) v p ≡ before
first_turned graph p before v ws h apart =
    ap (λ (node : Node). get_or node.ports p None)
    (outside_turned (with_port graph v p before) p (Some v) ws v apart) ∙ port_set graph p v before h

start_turned : (graph : List Node) (start p : ℕ) (before : Option ℕ) (vs : List ℕ) → BeginsWith vs start
    → AreDifferent vs → AllByRecursion (HasPort graph p) vs → port_of (turned graph p before vs) start p ≡ before
start_turned graph start p before [] begins different h = absurd begins
start_turned graph start p before (v ∷ ws) begins different h =
    subst (λ (n : ℕ). port_of (turned graph p before (v ∷ ws)) n p ≡ before) begins
    (first_turned graph p before v ws h.0 (different_head v ws different))

next_turned : (graph : List Node) (p : ℕ) (before : Option ℕ) (front rest : List ℕ) (v w : ℕ)
    → AreDifferent (front ++ v ∷ w ∷ rest) → AllByRecursion (HasPort graph p) (front ++ v ∷ w ∷ rest)
    → port_of (turned graph p before (front ++ v ∷ w ∷ rest)) w p ≡ Some v
next_turned graph p before [] rest v w different h =
    first_turned (with_port graph v p before) p (Some v) w rest (has_port_still graph p v before w h.1.0)
    (different_head w rest (different_tail v (w ∷ rest) different))
next_turned graph p before (u ∷ us) rest v w different h =
    next_turned (with_port graph u p before) p (Some u) us rest v w
    (different_tail u (us ++ v ∷ w ∷ rest) different)
    (have_ports_still graph p u before (us ++ v ∷ w ∷ rest) h.1)

next_in : (graph : List Node) (p : ℕ) (before : Option ℕ) (vs front rest : List ℕ) (v w : ℕ)
    → vs ≡ front ++ v ∷ w ∷ rest → AreDifferent vs → AllByRecursion (HasPort graph p) vs
    → port_of (turned graph p before vs) w p ≡ Some v
next_in graph p before vs front rest v w e different h = rw e (next_turned graph p before front rest v w (rw e at different) (rw e at h))

is_turned : (graph : List Node) (start p : ℕ) (vs : List ℕ) → BeginsWith vs start → AreDifferent vs
    → AllByRecursion (HasPort graph p) vs → IsTurned graph (turned graph p (stop_of graph p vs) vs) start p vs
is_turned graph start p vs begins different h = record {
  first = start_turned graph start p (stop_of graph p vs) vs begins different h;
  next = λ front rest v w e. next_in graph p (stop_of graph p vs) vs front rest v w e different h;
  others = outside_turned graph p (stop_of graph p vs) vs;
  values = kept_turned (λ node. node.value) p (λ node target. refl) graph (stop_of graph p vs) vs;
  other_ports = λ n q other. kept_turned (λ node. get_or node.ports q None) p
      (λ node target. get_or-set_other node.ports p q target None other) graph (stop_of graph p vs) vs n;
}

have_ports : (graph : List Node) (p : ℕ) (ns : List ℕ) → AllByRecursion HasAllPorts graph → p < PORTS
    → AreBelow (length graph) ns → AllByRecursion (HasPort graph p) ns
have_ports graph p [] ports few below = tt
have_ports graph p (n ∷ ns) ports few below =
    let all = all_item HasAllPorts graph n no_node below.0 ports in
    (record { there = below.0; port = omega (arith, all, few) }, have_ports graph p ns ports few below.1)

pub reverses : (graph : List Node) (start p most : ℕ) → IsGraph graph → AllByRecursion HasAllPorts graph
    → IsCourse (length graph) start p most
    → IsTurned graph (graph_after graph (reverse start p most)) start p (walk_of graph start p most)
reverses graph start p most is ports course =
    let walk = gives_walk graph start p most course.some in
    is_turned graph start p (walk_of graph start p most) walk.begins walk.different
    (have_ports graph p (walk_of graph start p most) ports course.port
    (walk_below graph start p most is course.starts course.some))
