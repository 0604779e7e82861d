-- A footprint names different nodes of its graph, so there are no more of them than the graph has.
use Rattle.std.proofs.Common.{◌≡◌, ℕ, ◌+◌, ◌<◌, ◌≤◌, true, inl, inr, eqb, List, [], ◌∷◌, ◌++◌, length, take, get_or, map, fold, Option, Some, None, IfSome, sym, ap, subst, ◌∙◌, arith, length-append}
use Rattle.std.specs.List.{AllByRecursion, list_any}
use Rattle.std.proofs.lemmas.List.{length-map, length-take-le, map_more}
use Rattle.std.proofs.lemmas.List.Sums.{fold_push}
use Rattle.std.proofs.lemmas.Map.Steps.{length-le_from_distinct_below}
use Rattle.ww_plain.specs.declared.node.Node.{Node}
use Rattle.ww_plain.specs.declared.graph.TheConstants.{MAX_NODES}
use Rattle.ww_plain.specs.Transaction.{IsCourse}
use Rattle.ww_plain.specs.Numbers.{is_among, AreDifferent, with_number, distinct_of}
use Rattle.ww_plain.specs.Graph.{IsGraph}
use Rattle.ww_plain.specs.Walk.{IsWalk, FollowsPort, stop_of, last_of, walk_of}
use Rattle.ww_plain.specs.Footprint.{with_target, walked}
use Rattle.ww_plain.proofs.Members.{or_cases, true_or_false, same_from_eqb, different_push}
use Rattle.ww_plain.proofs.GraphFacts.{port_is_there, target_is_there}
use Rattle.ww_plain.proofs.Walks.{gives_walk}

-- ---- lists that nodes join

abbrev pub AreBelow : ℕ → List ℕ → Type 0
AreBelow size ns = AllByRecursion (λ n. n < size) ns

below_push : (size : ℕ) (ns : List ℕ) (n : ℕ) → AreBelow size ns → n < size → AreBelow size (ns ++ n ∷ [])
below_push size [] n below here = (here, tt)
below_push size (m ∷ ms) n below here = (below.0, below_push size ms n below.1 here)

pub below_joined : (size : ℕ) (ns : List ℕ) (n : ℕ) → AreBelow size ns → n < size → AreBelow size (with_number ns n)
below_joined size ns n below here = elim (true_or_false (is_among n ns))
    [ inl e ↦ rw e below | inr e ↦ rw e (below_push size ns n below here) ]

pub different_joined : (ns : List ℕ) (n : ℕ) → AreDifferent ns → AreDifferent (with_number ns n)
different_joined ns n different = elim (true_or_false (is_among n ns))
    [ inl e ↦ rw e different | inr e ↦ rw e (different_push ns n different e) ]

length_joined : (ns : List ℕ) (n : ℕ) → length (with_number ns n) ≤ length ns + 1
length_joined ns n = elim (true_or_false (is_among n ns))
    [ inl e ↦ rw e (omega arith) | inr e ↦ rw e (omega (arith, length-append ns (n ∷ []))) ]

pub length_all_joined : (ns ms : List ℕ) → length (fold with_number ns ms) ≤ length ns + length ms
length_all_joined ns [] = omega arith
length_all_joined ns (m ∷ ms) = omega (arith, length_all_joined (with_number ns m) ms, length_joined ns m)

-- one item more
pub distinct_more : {X : Type 0} (f : X → ℕ) (xs : List X) (i : ℕ) (x : X) (n : ℕ) → i < length xs → x ≡ get_or xs i x → n ≡ f x
    → distinct_of (map f (take (i + 1) xs)) ≡ with_number (distinct_of (map f (take i xs))) n
distinct_more f xs i x n lt is names = rw (map_more f xs i x lt, ← names ∙ ap f is) (fold_push with_number [] (map f (take i xs)) n)

-- ---- different nodes of a graph

below_among : (size : ℕ) (ns : List ℕ) → AreBelow size ns → (n : ℕ) → list_any (eqb n) ns ≡ true → n < size
below_among size [] below n e = absurd cc
below_among size (m ∷ ms) below n e = elim (or_cases (eqb n m) (list_any (eqb n) ms) e) [
  | inl same ↦ subst (λ (k : ℕ). k < size) (sym (same_from_eqb n m same)) below.0
  | inr later ↦ below_among size ms below.1 n later
]

pub few_different : (size : ℕ) (ns : List ℕ) → AreDifferent ns → AreBelow size ns → length ns ≤ size
few_different size ns different below = length-le_from_distinct_below ns size different (below_among size ns below)

follows_below : (graph : List Node) (p v : ℕ) (ws : List ℕ) → IsGraph graph → v < length graph
    → FollowsPort graph p (v ∷ ws) → AreBelow (length graph) (v ∷ ws)
follows_below graph p v [] is here follows = (here, tt)
follows_below graph p v (w ∷ ws) is here follows =
    (here, follows_below graph p w ws is (target_is_there graph v p w is follows.0) follows.1)

pub begun_below : (graph : List Node) (start p most : ℕ) (vs : List ℕ) → IsGraph graph → start < length graph
    → IsWalk graph start p most vs → AreBelow (length graph) vs
begun_below graph start p most [] is here walk = absurd walk.begins
begun_below graph start p most (v ∷ ws) is here walk =
    follows_below graph p v ws is (subst (λ (n : ℕ). n < length graph) (sym walk.begins) here) walk.follows

-- the nodes of a walk are there
pub walk_below : (graph : List Node) (start p most : ℕ) → IsGraph graph → start < length graph → 1 ≤ most
    → AreBelow (length graph) (walk_of graph start p most)
walk_below graph start p most is here some =
    begun_below graph start p most (walk_of graph start p most) is here (gives_walk graph start p most some)

pub different_walk : (graph : List Node) (start p most : ℕ) → 1 ≤ most → AreDifferent (walk_of graph start p most)
different_walk graph start p most some = (gives_walk graph start p most some).different

few_with_target : (size : ℕ) (ns : List ℕ) (target : Option ℕ) → AreDifferent ns → AreBelow size ns
    → IfSome target (λ t. t < size) → length (with_target ns target) ≤ size
few_with_target size ns None different below there = few_different size ns different below
few_with_target size ns (Some t) different below there =
    few_different size (with_number ns t) (different_joined ns t different) (below_joined size ns t below there)

-- a walk and its stop are no more nodes than the graph has
pub few_walked : (graph : List Node) (start p most : ℕ) → IsGraph graph → start < length graph → 1 ≤ most
    → length (walked graph p (walk_of graph start p most)) ≤ length graph
few_walked graph start p most is here some =
    few_with_target (length graph) (walk_of graph start p most) (stop_of graph p (walk_of graph start p most))
    (different_walk graph start p most some) (walk_below graph start p most is here some)
    (port_is_there graph (last_of (walk_of graph start p most)) p is.closed)

-- so far there are no more nodes than items
pub few_more : {X : Type 0} (f : X → ℕ) (xs : List X) (i : ℕ) (x : X) (n : ℕ) (ns : List ℕ) → i < length xs
    → x ≡ get_or xs i x → n ≡ f x → ns ≡ distinct_of (map f (take i xs)) → length (with_number ns n) ≤ length xs
few_more f xs i x n ns lt is names so_far =
    let more = length_joined ns n in
    let few = length_all_joined [] (map f (take i xs)) in
    let same = ap length so_far in
    omega (arith, more, few, same, length-map (take i xs) f, length-take-le i xs (omega arith))

-- a walk and its stop have room
pub room_for_stop : (graph : List Node) (start p most : ℕ) (vs : List ℕ) (stop : Option ℕ) → IsGraph graph
    → IsCourse (length graph) start p most → vs ≡ walk_of graph start p most
    → stop ≡ stop_of graph p (walk_of graph start p most) → length (with_target vs stop) ≤ MAX_NODES
room_for_stop graph start p most vs stop graphs course is stops =
    let few = few_walked graph start p most graphs course.starts course.some in
    rw (is, stops) (omega (arith, few, graphs.few))
