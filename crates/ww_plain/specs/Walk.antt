-- Walks along one port.
use Rattle.std.specs.Prelude.{ℕ, zero, suc, ◌≡◌, ◌≤◌, ◌<◌, ◌∷◌, ◌⊎◌, List, [], length, Option, Some, None, IfSome, IsTrue, false, if◌then◌else◌}
use Rattle.ww_plain.specs.declared.node.Node.{Node}
use Rattle.ww_plain.specs.Numbers.{is_among, AreDifferent}
use Rattle.ww_plain.specs.Graph.{port_of}

-- port p of each node of the list names the next
abbrev pub FollowsPort : List Node → ℕ → List ℕ → Type 0
FollowsPort graph p [] = Unit {0}
FollowsPort graph p (v ∷ []) = Unit {0}
FollowsPort graph p (v ∷ w ∷ ws) = (port_of graph v p ≡ Some w) × FollowsPort graph p (w ∷ ws)

-- the last of the nodes v, ws
abbrev pub last_from : ℕ → List ℕ → ℕ
last_from v [] = v
last_from v (w ∷ ws) = last_from w ws

-- the last of a list of nodes, 0 of none
abbrev pub last_of : List ℕ → ℕ
last_of [] = 0
last_of (v ∷ ws) = last_from v ws

-- the list begins with the node
abbrev pub BeginsWith : List ℕ → ℕ → Type 0
BeginsWith [] start = ⊥
BeginsWith (v ∷ vs) start = v ≡ start

-- where port p of the last node leads
abbrev pub stop_of : List Node → ℕ → List ℕ → Option ℕ
stop_of graph p vs = port_of graph (last_of vs) p

-- a walk of at most this many nodes ends behind these: it has that many, or the stop is empty or one of them
abbrev pub IsWalkEnd : List ℕ → ℕ → Option ℕ → Type 0
IsWalkEnd vs most stop = (most ≤ length vs) ⊎ IfSome stop (λ n. IsTrue (is_among n vs))

-- the walk goes on to the stop, which is none of its nodes
pub record GoesOnTo (vs : List ℕ) (most : ℕ) (stop : Option ℕ) (next : ℕ) : Type 0 where
  pub leads : stop ≡ Some next
  pub room : length vs < most
  pub fresh : is_among next vs ≡ false

-- The list is the walk from a node along port p, of at most this many nodes.
pub record IsWalk (graph : List Node) (start p most : ℕ) (vs : List ℕ) : Type 0 where
  pub begins : BeginsWith vs start
  pub different : AreDifferent vs
  pub follows : FollowsPort graph p vs
  pub short : length vs ≤ most
  pub ends : IsWalkEnd vs most (stop_of graph p vs)

-- goes on to a node that did not come before, and else ends
abbrev pub onward : Option ℕ → List ℕ → (ℕ → List ℕ) → List ℕ
onward None past go = []
onward (Some n) past go = if is_among n past then [] else go n

-- the nodes from v on, at most this many, behind those of `past`
unfoldable pub walk_past : List Node → ℕ → ℕ → List ℕ → ℕ → List ℕ
walk_past graph p zero past v = []
walk_past graph p (suc most) past v =
    v ∷ onward (port_of graph v p) (v ∷ past) (λ n. walk_past graph p most (v ∷ past) n)

-- the walk from a node along port p, of at most this many nodes
unfoldable pub walk_of : List Node → ℕ → ℕ → ℕ → List ℕ
walk_of graph start p most = walk_past graph p most [] start
