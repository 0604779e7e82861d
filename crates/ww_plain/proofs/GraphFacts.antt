-- Graphs, read and written at a position.
use Rattle.std.proofs.Common.{◌≡◌, ℕ, zero, suc, ◌<◌, List, [], ◌∷◌, ◌++◌, length, take, drop, get_or, set, Option, Some, None, IfSome, subst, arith}
use Rattle.std.specs.List.{AllByRecursion}
use Rattle.std.proofs.Math.ListN.{drop_of_length-le}
use Rattle.std.proofs.lemmas.List.{take_all, append-nil}
use Rattle.ww_plain.specs.declared.node.Node.{Node}
use Rattle.ww_plain.specs.Graph.{no_node, node_at, port_of, IsNodeOf, IsGraph}

-- what holds of each element of a list, and of the default, holds of what is read at any position
pub all_at : {X : Type 0} (P : X → Type 0) (xs : List X) (i : ℕ) (d : X) → P d → AllByRecursion P xs → P (get_or xs i d)
all_at P [] i d default all = default
all_at P (x ∷ xs) zero d default all = all.0
all_at P (x ∷ xs) (suc i) d default all = all_at P xs i d default all.1

-- what holds of each element of a list holds of the one at a position
pub all_item : {X : Type 0} (P : X → Type 0) (xs : List X) (i : ℕ) (d : X) → i < length xs → AllByRecursion P xs → P (get_or xs i d)
all_item P [] i d lt all = absurd (omega arith)
all_item P (x ∷ xs) zero d lt all = all.0
all_item P (x ∷ xs) (suc i) d lt all = all_item P xs i d (omega arith) all.1

pub all_set : {X : Type 0} (P : X → Type 0) (xs : List X) (i : ℕ) (x : X) → P x → AllByRecursion P xs → AllByRecursion P (set xs i x)
all_set P [] i y here all = tt
all_set P (x ∷ xs) zero y here all = (here, all.1)
all_set P (x ∷ xs) (suc i) y here all = (all.0, all_set P xs i y here all.1)

-- each port names a node that is there
pub port_is_there : (graph : List Node) (n p : ℕ) → AllByRecursion (IsNodeOf (length graph)) graph
    → IfSome (port_of graph n p) (λ target. target < length graph)
port_is_there graph n p closed = all_at (λ port. IfSome port (λ target. target < length graph))
    (node_at graph n).ports p None tt (all_at (IsNodeOf (length graph)) graph n no_node tt closed)

pub target_is_there : (graph : List Node) (n p target : ℕ) → IsGraph graph → port_of graph n p ≡ Some target → target < length graph
target_is_there graph n p target h e = subst (λ (port : Option ℕ). IfSome port (λ t. t < length graph)) e (port_is_there graph n p h.closed)

-- what a vector holds once all of it was lent out and written
pub written_back : (size : ℕ) (new old : List Node) → length old ≡ size → length new ≡ size → take size (new ++ drop (length new) old) ≡ new
written_back size new old old_size new_size =
    let none : drop (length new) old ≡ [] = drop_of_length-le old (omega arith) in
    rw (none, append-nil) (take_all size new (omega arith))
