-- What a transaction makes of its footprint, and the graph as it was.
use Rattle.std.proofs.Common.{◌≡◌, ◌≢◌, ℕ, zero, suc, ◌<◌, ◌≤◌, ◌∙◌, true, false, eqb, inl, inr, List, [], ◌∷◌, ◌++◌, ◌+◌, length, map, take, drop, get_or, slice_get, Some, set, refl, sym, ap, subst, arith, length-set}
use Rattle.std.specs.List.{AllByRecursion}
use Rattle.std.proofs.lemmas.List.{drop_all, take_all, append-nil, ext_get_or, get_or-set_same, get_or-set_other}
use mathlib.Core.Logic.{dite}
use native.Mathlib.Decide.{ℕ_discrete}
use Rattle.ww_plain.specs.declared.node.Node.{Node}
use Rattle.ww_plain.specs.Numbers.{is_among, AreDifferent}
use Rattle.ww_plain.specs.Graph.{no_node, node_at, IsNodeOf, IsGraph}
use Rattle.ww_plain.proofs.GraphFacts.{all_at, all_item}
use Rattle.ww_plain.proofs.Members.{true_or_false, same_from_eqb, is_among-head, is_among-tail, different_head, different_tail}
use Rattle.ww_seat.specs.declared.committing.NodeChange.{NodeChange}
use Rattle.ww_seat.specs.Commits.{change_at}
use Rattle.ww_seat.proofs.Changes.{drop_here}
use Rattle.ww_lock.proofs.Changes.{node_read}

-- so many of the changes are those between the graphs, and the others are none yet
abbrev pub partly : List Node → List Node → ℕ → List ℕ → List NodeChange
partly before after i [] = []
partly before after zero (n ∷ ns) = change_at before before n ∷ partly before after zero ns
partly before after (suc i) (n ∷ ns) = change_at before after n ∷ partly before after i ns

partly_none : (before after : List Node) (ns : List ℕ) → map (change_at before before) ns ≡ partly before after 0 ns
partly_none before after [] = refl
partly_none before after (n ∷ ns) = ap (λ (cs : List NodeChange). change_at before before n ∷ cs) (partly_none before after ns)

partly_all : (before after : List Node) (i : ℕ) (ns : List ℕ) → length ns ≤ i → partly before after i ns ≡ map (change_at before after) ns
partly_all before after i [] all = refl
partly_all before after zero (n ∷ ns) all = absurd (omega arith)
partly_all before after (suc i) (n ∷ ns) all =
    ap (λ (cs : List NodeChange). change_at before after n ∷ cs) (partly_all before after i ns (omega arith))

partly_item : (before after : List Node) (i : ℕ) (ns : List ℕ) (d : NodeChange) → i < length ns
    → get_or (partly before after i ns) i d ≡ change_at before before (get_or ns i 0)
partly_item before after i [] d lt = absurd (omega arith)
partly_item before after zero (n ∷ ns) d lt = refl
partly_item before after (suc i) (n ∷ ns) d lt = partly_item before after i ns d (omega arith)

partly_more : (before after : List Node) (i : ℕ) (ns : List ℕ) → i < length ns
    → set (partly before after i ns) i (change_at before after (get_or ns i 0)) ≡ partly before after (suc i) ns
partly_more before after i [] lt = absurd (omega arith)
partly_more before after zero (n ∷ ns) lt = refl
partly_more before after (suc i) (n ∷ ns) lt =
    ap (λ (cs : List NodeChange). change_at before after n ∷ cs) (partly_more before after i ns (omega arith))

partly_long : (before after : List Node) (i : ℕ) (ns : List ℕ) → length (partly before after i ns) ≡ length ns
partly_long before after i [] = refl
partly_long before after zero (n ∷ ns) = ap suc (partly_long before after zero ns)
partly_long before after (suc i) (n ∷ ns) = ap suc (partly_long before after i ns)

different_drop : (ns : List ℕ) (i : ℕ) → AreDifferent ns → AreDifferent (drop i ns)
different_drop ns zero different = different
different_drop [] (suc i) different = different
different_drop (n ∷ ns) (suc i) different = different_drop ns i (different_tail n ns different)

-- So many of the nodes were put back: they are as they were before, and the others of the list as they are afterwards.
pub record IsGoingBack (before after : List Node) (ns : List ℕ) (i : ℕ) (changes : List NodeChange) (graph : List Node) : Type 0 where
  pub size : length graph ≡ length before
  pub so_far : changes ≡ partly before after i ns
  pub ahead : (n : ℕ) → is_among n (drop i ns) ≡ true → node_at graph n ≡ node_at after n
  pub behind : (n : ℕ) → is_among n (drop i ns) ≡ false → node_at graph n ≡ node_at before n

pub goes_back : (before after : List Node) (ns : List ℕ) (changes : List NodeChange) → length after ≡ length before
    → ((n : ℕ) → is_among n ns ≡ false → node_at after n ≡ node_at before n)
    → changes ≡ map (change_at before before) ns → IsGoingBack before after ns 0 changes after
goes_back before after ns changes size outside are =
    record { size = size; so_far = are ∙ partly_none before after ns; ahead = λ n e. refl; behind = outside }

-- the next change is of a node that is still to be put back
pub next_item : (before after : List Node) (ns : List ℕ) (i : ℕ) (changes : List NodeChange) (graph : List Node)
    (d : NodeChange) → IsGoingBack before after ns i changes graph → i < length ns
    → get_or changes i d ≡ change_at before before (get_or ns i 0)
next_item before after ns i changes graph d is lt = ap (λ (cs : List NodeChange). get_or cs i d) is.so_far
    ∙ partly_item before after i ns d lt

pub many_changes : (before after : List Node) (ns : List ℕ) (i : ℕ) (changes : List NodeChange) (graph : List Node)
    → IsGoingBack before after ns i changes graph → length changes ≡ length ns
many_changes before after ns i changes graph is = ap length is.so_far ∙ partly_long before after i ns

pub went_back : (before after : List Node) (ns : List ℕ) (i : ℕ) (changes : List NodeChange) (graph : List Node)
    → AreDifferent ns → i < length ns → get_or ns i 0 < length before → IsGoingBack before after ns i changes graph
    → IsGoingBack before after ns (suc i) (set changes i (change_at before (graph) (get_or ns i 0)))
    (set graph (get_or ns i 0) (node_at before (get_or ns i 0)))
went_back before after ns i changes graph different lt there is =
    let n : ℕ = get_or ns i 0 in
    let x : Node = node_at before n in
    let now = drop_here ns i lt in
    let here : is_among n (drop i ns) ≡ true =
    subst (λ (ms : List ℕ). is_among n ms ≡ true) (sym now) (is_among-head n (drop (suc i) ns)) in
    let once : is_among n (drop (suc i) ns) ≡ false =
    different_head n (drop (suc i) ns) (subst AreDifferent now (different_drop ns i different)) in
    record {
      size = length-set graph n x ∙ is.size;
      so_far = ap (λ (y : Node). set changes i (record { number = n; before = x; after = y })) (is.ahead n here)
          ∙ ap (λ (cs : List NodeChange). set cs i (change_at before after n)) is.so_far
          ∙ partly_more before after i ns lt;
      ahead = λ k e. dite (ℕ_discrete k n)
          (λ same. absurd (let u = ap (λ (j : ℕ). is_among j (drop (suc i) ns)) same in cc))
          (λ differ. get_or-set_other graph n k x no_node differ
          ∙ is.ahead k (subst (λ (ms : List ℕ). is_among k ms ≡ true) (sym now)
          (is_among-tail n k (drop (suc i) ns) e)));
      behind = λ k e. dite (ℕ_discrete k n)
          (λ same. subst (λ (j : ℕ). node_at (set graph n x) j ≡ node_at before j) (sym same)
          (get_or-set_same graph n x no_node (omega (arith, there, is.size))))
          (λ differ. get_or-set_other graph n k x no_node differ
          ∙ is.behind k (subst (λ (ms : List ℕ). is_among k ms ≡ false) (sym now)
          (not_here n k (drop (suc i) ns) differ e)));
    }
  where
    not_here : (n k : ℕ) (ms : List ℕ) → k ≢ n → is_among k ms ≡ false → is_among k (n ∷ ms) ≡ false
    not_here n k ms differ e = elim (true_or_false (eqb n k))
        [ inl same ↦ absurd (differ (sym (same_from_eqb n k same))) | inr other ↦ rw other e ]

-- all were put back
pub is_back : (before after : List Node) (ns : List ℕ) (i : ℕ) (changes : List NodeChange) (graph : List Node)
    → length ns ≤ i → IsGoingBack before after ns i changes graph → (graph ≡ before)
    × (changes ≡ map (change_at before after) ns)
is_back before after ns i changes graph all is = (
  ext_get_or no_node graph before is.size (λ n lt. is.behind n (ap (is_among n) (drop_all i ns all))),
  is.so_far ∙ partly_all before after i ns all,
)

-- ---- one round

pub number_there : (before after : List Node) (ns : List ℕ) (i : ℕ) (changes : List NodeChange) (graph : List Node)
    (d : NodeChange) → IsGoingBack before after ns i changes graph → AllByRecursion (λ n. n < length before) ns
    → i < length changes
    → (get_or changes i d).number < length graph
number_there before after ns i changes graph d is there lt =
    let long = many_changes before after ns i changes graph is in
    subst (λ (c : NodeChange). c.number < length graph) (sym (next_item before after ns i changes graph d is (omega arith)))
    (let low : get_or ns i 0 < length before = all_item (λ n. n < length before) ns i 0 (omega arith) there in omega (arith, low, is.size))

pub node_fits : (before after : List Node) (ns : List ℕ) (i : ℕ) (changes : List NodeChange) (graph : List Node)
    (d : NodeChange) → IsGoingBack before after ns i changes graph → IsGraph before → i < length changes
    → IsNodeOf (length graph) (get_or changes i d).before
node_fits before after ns i changes graph d is whole lt =
    let long = many_changes before after ns i changes graph is in
    subst (λ (c : NodeChange). IsNodeOf (length graph) c.before) (sym (next_item before after ns i changes graph d is (omega arith)))
    (subst (λ (size : ℕ). IsNodeOf size (node_at before (get_or ns i 0))) (sym is.size)
    (all_at (IsNodeOf (length before)) before (get_or ns i 0) no_node tt whole.closed))

pub next_back : (before after : List Node) (ns : List ℕ) (i : ℕ) (changes : List NodeChange)
    (graph next : List Node) (d : NodeChange) (x : Node) → IsGoingBack before after ns i changes graph
    → AreDifferent ns → AllByRecursion (λ n. n < length before) ns
    → i < length changes → slice_get graph (get_or changes i d).number ≡ Some x
    → next ≡ set graph (get_or changes i d).number (get_or changes i d).before
    → IsGoingBack before after ns (i + 1)
    (set changes i (record {
      number = (get_or changes i d).number;
      before = (get_or changes i d).before;
      after = x;
    })) next
next_back before after ns i changes graph next d x is different there lt read put =
    let long = many_changes before after ns i changes graph is in
    let n : ℕ = get_or ns i 0 in
    let up : suc i ≡ i + 1 = omega arith in
    let here : get_or changes i d ≡ change_at before before n = next_item before after ns i changes graph d is (omega arith) in
    let read_here : node_at graph n ≡ x = node_read graph n x (subst (λ (c : NodeChange). slice_get graph c.number ≡ Some x) here read) in
    let put_here : next ≡ set graph n (node_at before n) = subst (λ (c : NodeChange). next ≡ set graph c.number c.before) here put in
    subst (λ (c : NodeChange). IsGoingBack before after ns (i + 1)
    (set changes i (record { number = c.number; before = c.before; after = x })) next) (sym here)
    (subst (λ (k : ℕ). IsGoingBack before after ns k (set changes i (record { number = n; before = node_at before n; after = x })) next) up
    (subst (λ (g : List Node). IsGoingBack before after ns (suc i)
    (set changes i (record { number = n; before = node_at before n; after = x })) g) (sym put_here)
    (subst (λ (y : Node). IsGoingBack before after ns (suc i)
    (set changes i (record { number = n; before = node_at before n; after = y }))
    (set graph n (node_at before n))) read_here
    (went_back before after ns i changes graph different (omega arith) (all_item (λ m. m < length before) ns i 0 (omega arith) there) is))))

-- what a vector holds once all of it was lent out and written
pub written_back : {X : Type 0} (size : ℕ) (new old : List X) → length old ≡ size → length new ≡ size
    → take size (new ++ drop (length new) old) ≡ new
written_back size new old old_size new_size =
    let none : drop (length new) old ≡ [] = drop_all (length new) old (omega arith) in
    rw (none, append-nil) (take_all size new (omega arith))
