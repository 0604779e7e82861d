-- What a transaction leaves of the nodes of a table, which may have none.
use Rattle.std.proofs.Common.{◌≡◌, ℕ, ◌+◌, ◌-◌, ◌^◌, nat_lt, inl, inr, Bool, true, false, List, [], ◌∷◌, length, fold, Option, Some, refl, ap, sym, subst, arith}
use Rattle.ww_plain.specs.declared.node.Node.{Node}
use Rattle.ww_plain.specs.Graph.{IsGraph, value_of}
use Rattle.ww_plain.specs.Transaction.{Transaction, get, add, move, link, sum, reverse, peek, Fits}
use Rattle.ww_plain.specs.Walk.{walk_of, stop_of}
use Rattle.ww_plain.specs.Meaning.{raised, moving, turned, graph_after}
use Rattle.ww_plain.proofs.Members.{true_or_false}
use Rattle.ww_plain.proofs.Kept.{sized_after, keeps_graph}
use Rattle.ww_invariant.specs.Rule.{nodes_of, AreNodes}

pub of_graph : (bare : Bool) (graph : List Node) → IsGraph graph → AreNodes (nodes_of bare graph)
of_graph true graph is = record { few = omega arith; closed = tt }
of_graph false graph is = record { few = is.few; closed = is.closed }

none_raised : (amounts : List (ℕ × ℕ)) → fold raised [] amounts ≡ []
none_raised [] = refl
none_raised (pair ∷ pairs) = none_raised pairs

none_moved : (from to amount : ℕ) → (moving [] from to amount).1 ≡ []
none_moved from to amount = elim (true_or_false (nat_lt (value_of [] from) amount)) [
  | inl short ↦ rw short refl
  | inr enough ↦ rw enough (elim (true_or_false (nat_lt (2 ^ 64 - 1) (value_of [] to + amount))) [
    | inl full ↦ rw full refl
    | inr room ↦ rw room refl
  ])
]

none_turned : (p : ℕ) (before : Option ℕ) (vs : List ℕ) → turned [] p before vs ≡ []
none_turned p before [] = refl
none_turned p before (v ∷ vs) = none_turned p (Some v) vs

none_after : (txn : Transaction) → graph_after [] txn ≡ []
none_after (get by nodes) = refl
none_after (add by amounts) = none_raised amounts
none_after (move from to amount) = none_moved from to amount
none_after (link node port target) = refl
none_after (sum start p most) = refl
none_after (reverse start p most) = none_turned p (stop_of [] p (walk_of [] start p most)) (walk_of [] start p most)
none_after (peek node) = refl

pub keeps_nodes : (graph : List Node) (txn : Transaction) → AreNodes graph → Fits (length graph) txn
    → AreNodes (graph_after graph txn) × (length (graph_after graph txn) ≡ length graph)
keeps_nodes [] txn are fits = (subst AreNodes (sym (none_after txn)) are, ap length (none_after txn))
keeps_nodes (x ∷ xs) txn are fits =
    let is : IsGraph (x ∷ xs) = record { some = omega arith; few = are.few; closed = are.closed } in
    let after = keeps_graph (x ∷ xs) txn is fits in
    (record { few = after.few; closed = after.closed }, (sized_after (x ∷ xs) txn is fits).length_is)
