-- Ports that nothing names stay empty.
use Rattle.std.proofs.Common.{◌≡◌, ℕ, zero, suc, ◌+◌, ◌-◌, ◌%◌, ◌^◌, ◌<◌, nat_lt, inl, inr, List, [], ◌∷◌, length, set, fold, Option, Some, None, sym, subst, ◌∙◌, length-set, drop-set-lt, arith}
use Rattle.std.specs.List.{AllByRecursion}
use Rattle.ww_plain.specs.declared.node.Node.{Node}
use Rattle.ww_plain.specs.Graph.{no_node, node_at, value_of, with_value, with_port, IsEmptyFrom, AreEmptyFrom}
use Rattle.ww_plain.specs.Transaction.{get, add, move, link, sum, reverse, peek}
use Rattle.ww_plain.specs.Walk.{walk_of, stop_of}
use Rattle.ww_plain.specs.Meaning.{raised, moving, turned}
use Rattle.ww_plain.specs.Laws.{UnusedPortsStayEmpty}
use Rattle.ww_plain.proofs.Members.{true_or_false}
use Rattle.ww_plain.proofs.GraphFacts.{all_item}

all_set_inside : {X : Type 0} (P : X → Type 0) (xs : List X) (i : ℕ) (x : X) → (i < length xs → P x)
    → AllByRecursion P xs → AllByRecursion P (set xs i x)
all_set_inside P [] i y here all = tt
all_set_inside P (x ∷ xs) zero y here all = (here (omega arith), all.1)
all_set_inside P (x ∷ xs) (suc i) y here all = (all.0, all_set_inside P xs i y (λ lt. here (omega (arith, lt))) all.1)

module _ (used : ℕ) where
  unused_value : (graph : List Node) (n value : ℕ) → AreEmptyFrom used graph → AreEmptyFrom used (with_value graph n value)
  unused_value graph n value unused =
      all_set_inside (IsEmptyFrom used) graph n (record (node_at graph n) { value = value })
      (λ lt. all_item (IsEmptyFrom used) graph n no_node lt unused) unused

  unused_port : (graph : List Node) (n p : ℕ) (target : Option ℕ) → p < used → AreEmptyFrom used graph
      → AreEmptyFrom used (with_port graph n p target)
  unused_port graph n p target low unused = all_set_inside (IsEmptyFrom used) graph n _ (λ lt.
      let here = all_item (IsEmptyFrom used) graph n no_node lt unused in
      let ports = (node_at graph n).ports in (
        length-set ports p target ∙ here.0,
        subst (AllByRecursion (λ port. port ≡ None))
            (sym (drop-set-lt used ports p target low)) here.1,
      )) unused

  unused_added : (graph : List Node) (amounts : List (ℕ × ℕ)) → AreEmptyFrom used graph → AreEmptyFrom used (fold raised graph amounts)
  unused_added graph [] unused = unused
  unused_added graph (pair ∷ pairs) unused =
      unused_added (raised graph pair) pairs (unused_value graph pair.0 ((value_of graph pair.0 + pair.1) % 2 ^ 64) unused)

  unused_moving : (graph : List Node) (from to amount : ℕ) → AreEmptyFrom used graph → AreEmptyFrom used ((moving graph from to amount).1)
  unused_moving graph from to amount unused = elim (true_or_false (nat_lt (value_of graph from) amount)) [
    | inl short ↦ rw short unused
    | inr enough ↦ rw enough (elim (true_or_false (nat_lt (2 ^ 64 - 1) (value_of graph to + amount))) [
      | inl full ↦ rw full unused
      | inr room ↦ rw room (unused_value (with_value graph from (value_of graph from - amount)) to
          (value_of graph to + amount) (unused_value graph from (value_of graph from - amount) unused))
    ])
  ]

  unused_turned : (graph : List Node) (p : ℕ) (before : Option ℕ) (vs : List ℕ) → p < used → AreEmptyFrom used graph
      → AreEmptyFrom used (turned graph p before vs)
  unused_turned graph p before [] low unused = unused
  unused_turned graph p before (v ∷ vs) low unused =
      unused_turned (with_port graph v p before) p (Some v) vs low (unused_port graph v p before low unused)

pub unused_after : UnusedPortsStayEmpty
unused_after graph (get by nodes) used names unused = unused
unused_after graph (add by amounts) used names unused = unused_added used graph amounts unused
unused_after graph (move from to amount) used names unused = unused_moving used graph from to amount unused
unused_after graph (link node port target) used names unused = unused_port used graph node port target names unused
unused_after graph (sum start p most) used names unused = unused
unused_after graph (reverse start p most) used names unused =
    let walk = walk_of graph start p most in unused_turned used graph p (stop_of graph p walk) walk names unused
unused_after graph (peek node) used names unused = unused
