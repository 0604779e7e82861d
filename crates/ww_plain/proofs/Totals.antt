-- What transactions do to the total of a graph's values.
use Rattle.std.proofs.Common.{◌≡◌, ◌≢◌, ℕ, ◌+◌, ◌-◌, ◌^◌, ◌<◌, ◌≤◌, false, nat_lt, inl, inr, List, [], ◌∷◌, length, set, Option, Some, IsTrue, refl, sym, ap, ◌∙◌, arith, length-set}
use Rattle.std.proofs.lemmas.Bool.Decides.{nat_tests}
use Rattle.std.proofs.lemmas.Bool.{false≢true}
use Rattle.std.proofs.lemmas.List.{get_or-set_other, set_past}
use Rattle.std.proofs.lemmas.List.Sums.{sum_by-set}
use Rattle.ww_plain.specs.declared.node.Node.{Node}
use Rattle.ww_plain.specs.Graph.{no_node, node_at, value_of, with_value, with_port}
use Rattle.ww_plain.specs.Transaction.{Transaction, get, add, move, link, sum, reverse, peek, Fits, HasNoDouble}
use Rattle.ww_plain.specs.Walk.{walk_of, stop_of}
use Rattle.ww_plain.specs.Meaning.{moved, moving, turned, answer_to, graph_after}
use Rattle.ww_plain.specs.History.{Recorded, IsLegal, last_graph}
use Rattle.ww_plain.proofs.Members.{true_or_false, different_head}
use Rattle.ww_plain.specs.Totals.{total_of, is_move, is_add, is_read, AreMoves, HasNoAdd}

-- ---- one node is changed

-- what becomes of the total where a node of the graph gets another value
total_set : (graph : List Node) (n value : ℕ) → n < length graph
    → total_of (with_value graph n value) + value_of graph n ≡ total_of graph + value
total_set graph n value lt =
    sum_by-set (λ (node : Node). node.value) graph n (record (node_at graph n) { value = value }) no_node lt

-- a node's value is what it was, where another node is changed
value_kept : (graph : List Node) (n m value : ℕ) → m ≢ n → value_of (with_value graph n value) m ≡ value_of graph m
value_kept graph n m value other =
    ap (λ (node : Node). node.value) (get_or-set_other graph n m (record (node_at graph n) { value = value }) no_node other)

-- a port of a node doesn't matter for the total
total_port : (graph : List Node) (n p : ℕ) (target : Option ℕ) → total_of (with_port graph n p target) ≡ total_of graph
total_port graph n p target = elim (true_or_false (nat_lt n (length graph))) [
  | inl there ↦
      let lt : n < length graph = grind (arith, nat_tests) in
      let same = sum_by-set (λ (node : Node). node.value) graph n
      (record (node_at graph n) { ports = set (node_at graph n).ports p target }) no_node lt in
      omega (arith, same)
  | inr past ↦
      let le : length graph ≤ n = grind (arith, nat_tests) in
      ap (λ (g : List Node). total_of g) (set_past graph n (record (node_at graph n) { ports = set (node_at graph n).ports p target }) le)
]

total_turned : (graph : List Node) (p : ℕ) (before : Option ℕ) (vs : List ℕ) → total_of (turned graph p before vs) ≡ total_of graph
total_turned graph p before [] = refl
total_turned graph p before (v ∷ vs) =
    total_turned (with_port graph v p before) p (Some v) vs ∙ total_port graph v p before

-- ---- a move

apart : (from to amount : ℕ) → HasNoDouble (move from to amount) → to ≢ from
apart from to amount h = let e = different_head from (to ∷ []) h in grind (arith, nat_tests)

-- what one node loses the other gets
total_moved : (graph : List Node) (from to amount : ℕ) → from < length graph → to < length graph → to ≢ from
    → amount ≤ value_of graph from
    → total_of (with_value (with_value graph from (value_of graph from - amount)) to (value_of graph to + amount)) ≡ total_of graph
total_moved graph from to amount one two other enough =
    let less = with_value graph from (value_of graph from - amount) in
    let size : length less ≡ length graph = length-set graph from (record (node_at graph from) { value = value_of graph from - amount }) in
    let there : to < length less = omega (arith, size, two) in
    let first = total_set graph from (value_of graph from - amount) one in
    let second = total_set less to (value_of graph to + amount) there in
    let kept = value_kept graph from to (value_of graph from - amount) other in
    omega (arith, first, second, kept, enough)

-- the total of what a move leaves
total_moving : (graph : List Node) (from to amount : ℕ) → from < length graph → to < length graph → to ≢ from
    → total_of ((moving graph from to amount).1) ≡ total_of graph
total_moving graph from to amount one two other = elim (true_or_false (nat_lt (value_of graph from) amount)) [
  | inl few ↦ rw few refl
  | inr enough ↦ rw enough (elim (true_or_false (nat_lt (2 ^ 64 - 1) (value_of graph to + amount))) [
    | inl much ↦ rw much refl
    | inr room ↦
        let le : amount ≤ value_of graph from = grind (arith, nat_tests) in
        rw room (total_moved graph from to amount one two other le)
  ])
]

pub move_keeps : (graph : List Node) (from to amount : ℕ) → Fits (length graph) (move from to amount)
    → HasNoDouble (move from to amount) → total_of (graph_after graph (move from to amount)) ≡ total_of graph
move_keeps graph from to amount fits different =
    total_moving graph from to amount fits.0 fits.1 (apart from to amount different)

-- what a move leaves where it isn't answered `moved`
moving_refused : (graph : List Node) (from to amount : ℕ) → ((moving graph from to amount).0 ≡ moved → ⊥)
    → (moving graph from to amount).1 ≡ graph
moving_refused graph from to amount refused = elim (true_or_false (nat_lt (value_of graph from) amount)) [
  | inl few ↦ rw few refl
  | inr enough ↦ elim (true_or_false (nat_lt (2 ^ 64 - 1) (value_of graph to + amount))) [
    | inl much ↦ rw (enough, much) refl
    | inr room ↦ absurd (refused (rw (enough, room) refl))
  ]
]

pub refused_keeps : (graph : List Node) (from to amount : ℕ) → answer_to graph (move from to amount) ≢ moved
    → graph_after graph (move from to amount) ≡ graph
refused_keeps graph from to amount refused = moving_refused graph from to amount refused

-- ---- any transaction, and histories

pub reads_keep : (graph : List Node) (txn : Transaction) → IsTrue (is_read txn) → graph_after graph txn ≡ graph
reads_keep graph (get by nodes) read = refl
reads_keep graph (add by amounts) read = absurd (false≢true read)
reads_keep graph (move from to amount) read = absurd (false≢true read)
reads_keep graph (link node port target) read = absurd (false≢true read)
reads_keep graph (sum start port most) read = refl
reads_keep graph (reverse start port most) read = absurd (false≢true read)
reads_keep graph (peek node) read = refl

pub others_keep : (graph : List Node) (txn : Transaction) → Fits (length graph) txn → HasNoDouble txn
    → is_add txn ≡ false → total_of (graph_after graph txn) ≡ total_of graph
others_keep graph (get by nodes) fits different other = refl
others_keep graph (add by amounts) fits different other = absurd (false≢true (sym other))
others_keep graph (move from to amount) fits different other = move_keeps graph from to amount fits different
others_keep graph (link node port target) fits different other = total_port graph node port target
others_keep graph (sum start port most) fits different other = refl
others_keep graph (reverse start port most) fits different other =
    total_turned graph port (stop_of graph port (walk_of graph start port most)) (walk_of graph start port most)
others_keep graph (peek node) fits different other = refl

pub history_keeps : (graph : List Node) (history : List Recorded) → IsLegal graph history → HasNoAdd history
    → total_of (last_graph graph history) ≡ total_of graph
history_keeps graph [] legal others = refl
history_keeps graph (r ∷ rs) legal others =
    history_keeps (graph_after graph r.transaction) rs legal.1 others.1
    ∙ others_keep graph r.transaction legal.0.fits legal.0.no_double others.0

move_is_no_add : (txn : Transaction) → IsTrue (is_move txn) → is_add txn ≡ false
move_is_no_add (get by nodes) h = absurd (false≢true h)
move_is_no_add (add by amounts) h = absurd (false≢true h)
move_is_no_add (move from to amount) h = refl
move_is_no_add (link node port target) h = absurd (false≢true h)
move_is_no_add (sum start port most) h = absurd (false≢true h)
move_is_no_add (reverse start port most) h = absurd (false≢true h)
move_is_no_add (peek node) h = absurd (false≢true h)

moves_have_no_add : (history : List Recorded) → AreMoves history → HasNoAdd history
moves_have_no_add [] h = tt
moves_have_no_add (r ∷ rs) h = (move_is_no_add r.transaction h.0, moves_have_no_add rs h.1)

pub moves_keep : (graph : List Node) (history : List Recorded) → IsLegal graph history → AreMoves history
    → total_of (last_graph graph history) ≡ total_of graph
moves_keep graph history legal moves = history_keeps graph history legal (moves_have_no_add history moves)
