-- The nodes that a transaction depends on and may change.
use Rattle.std.specs.Prelude.{ℕ, ◌≡◌, ◌⊎◌, ◌∷◌, [], List, Option, Some, None, IsTrue}
use Rattle.ww_plain.specs.declared.node.Node.{Node}
use Rattle.ww_plain.specs.Numbers.{is_among, with_number, distinct_of}
use Rattle.ww_plain.specs.Transaction.{Transaction, get, add, move, link, sum, reverse, peek, listed}
use Rattle.ww_plain.specs.Walk.{walk_of, stop_of}

-- the target joins the nodes, where there is one
abbrev pub with_target : List ℕ → Option ℕ → List ℕ
with_target ns None = ns
with_target ns (Some target) = with_number ns target

-- a walk's nodes, and its stop
abbrev pub walked : List Node → ℕ → List ℕ → List ℕ
walked graph port vs = with_target vs (stop_of graph port vs)

-- the nodes that a transaction lists, or its node and target, or its walk and stop
abbrev pub footprint_of : List Node → Transaction → List ℕ
footprint_of graph (get by nodes) = distinct_of (listed (get by nodes))
footprint_of graph (add by amounts) = distinct_of (listed (add by amounts))
footprint_of graph (move from to amount) = distinct_of (listed (move from to amount))
footprint_of graph (link node port target) = with_target (node ∷ []) target
footprint_of graph (sum start port length) = walked graph port (walk_of graph start port length)
footprint_of graph (reverse start port length) = walked graph port (walk_of graph start port length)
footprint_of graph (peek node) = node ∷ []

-- the node is one of the walk, or its stop
abbrev pub IsOnWalk : List Node → ℕ → List ℕ → ℕ → Type 0
IsOnWalk graph port vs n = IsTrue (is_among n vs) ⊎ (stop_of graph port vs ≡ Some n)

-- the node is one that the transaction lists or names, or one of its walk, or the walk's stop
abbrev pub Concerns : List Node → Transaction → ℕ → Type 0
Concerns graph (get by nodes) n = IsTrue (is_among n nodes)
Concerns graph (add by amounts) n = IsTrue (is_among n (listed (add by amounts)))
Concerns graph (move from to amount) n = IsTrue (is_among n (listed (move from to amount)))
Concerns graph (link node port target) n = IsTrue (is_among n (node ∷ [])) ⊎ (target ≡ Some n)
Concerns graph (sum start port length) n = IsOnWalk graph port (walk_of graph start port length) n
Concerns graph (reverse start port length) n = IsOnWalk graph port (walk_of graph start port length) n
Concerns graph (peek node) n = IsTrue (is_among n (node ∷ []))
