-- What an input says of scripts is read as them.
use Rattle.std.proofs.Common.{◌≡◌, ℕ, zero, suc, ◌-◌, ◌<◌, ◌≤◌, List, [], ◌∷◌, ◌++◌, length, map, take, drop, replicate, length-drop, length-take-le, take-append-drop, Option, Some, None, Result, Ok, refl, sym, ap, ◌∙◌, arith}
use Rattle.std.specs.Prelude.{IfSome}
use Rattle.std.specs.List.{AllByRecursion}
use Rattle.std.proofs.lemmas.Bool.{lt-ltb}
use Rattle.std.proofs.lemmas.List.{length-map}
use Rattle.serde_json.specs.Data.{string}
use Rattle.ww_plain.specs.declared.node.Node.{Node}
use Rattle.ww_plain.specs.declared.transaction.By.{By}
use Rattle.ww_plain.specs.declared.transaction.By.TheVariants as by
use Rattle.ww_plain.specs.declared.node.TheConstants.{PORTS}
use Rattle.ww_plain.specs.Graph.{IsNodeOf, IsEmptyFrom, AreEmptyFrom, IsGraph}
use Rattle.ww_plain.specs.Transaction.{Transaction, get, add, move, link, sum, reverse, peek, IsCourse, Fits}
use Rattle.ww_json.specs.declared.fault.InputFault.{InputFault}
use Rattle.ww_json.specs.Parts.{◌>>=◌, below}
use Rattle.ww_json.specs.Spelling.{list, whole}
use Rattle.ww_json.proofs.Said.{below_said, ranged_said, counted_said, each_said, kind_said}
use Rattle.ww_script_parts.specs.Transactions.{by_in, get_of, pair_in, add_of, move_of, target_in, link_of, course_of, sum_of, reverse_of, peek_of, locking_in}
use Rattle.ww_script_parts.specs.declared.ranges.Ranges.{Ranges}
use Rattle.ww_script_parts.specs.declared.version.Version.{Version}
use Rattle.ww_script_parts.specs.Versions.{ports_of}
use Rattle.ww_script_parts.specs.Acts.{Action, does, interruptible, cancels, TakesLocks, IsWithin, IsActWithin, act_in}
use Rattle.ww_script_parts.specs.Scripts.{Plan, IsPlan, IsScript, ranges_of, port_in, ports_in, node_in, graph_in, script_in, scripts_in, plan_in}
use Rattle.ww_script_parts.proofs.Kept.{few_ports}
use Rattle.ww_script_parts.specs.Spelling.{by_word, target_data, node_data, pair_data, transaction_data, act_data, script_data, plan_data}

-- ---- transactions

by_said : (b : By) → by_in (string (by_word b)) ≡ Ok b
unfolding by_in
by_said by.List = refl
by_said by.Order = refl

get_said : (count : ℕ) (b : By) (nodes : List ℕ) → Fits count (get b nodes)
    → get_of count (string (by_word b) ∷ list (map whole nodes) ∷ []) ≡ Ok (get b nodes)
get_said count b nodes fits =
    let n = length-map nodes whole in
    let least : 1 ≤ length (map whole nodes) = omega (arith, fits.0.some) in
    let most : length (map whole nodes) ≤ 64 = omega (arith, fits.0.few) in
    rw (
      by_said b,
      counted_said 1 64 (map whole nodes) least most,
      each_said (λ n. n < count) whole (below count)
          nodes (below_said count) fits.1,
    ) refl

pair_said : (count : ℕ) (p : ℕ × ℕ) → p.0 < count → pair_in count (pair_data p) ≡ Ok p
unfolding pair_in
pair_said count p lt = ap (λ r. r >>= λ n. Ok (n, p.1)) (below_said count p.0 lt)

add_said : (count : ℕ) (b : By) (pairs : List (ℕ × ℕ)) → Fits count (add b pairs)
    → add_of count (string (by_word b) ∷ list (map pair_data pairs) ∷ []) ≡ Ok (add b pairs)
add_said count b pairs fits =
    let n = length-map pairs pair_data in
    let least : 1 ≤ length (map pair_data pairs) = omega (arith, fits.0.some) in
    let most : length (map pair_data pairs) ≤ 64 = omega (arith, fits.0.few) in
    rw (
      by_said b,
      counted_said 1 64 (map pair_data pairs) least most,
      each_said (λ (p : ℕ × ℕ). p.0 < count)
          pair_data (pair_in count) pairs (pair_said count) fits.1,
    ) refl

move_said : (count from to amount : ℕ) → Fits count (move from to amount)
    → move_of count (whole from ∷ whole to ∷ whole amount ∷ []) ≡ Ok (move from to amount)
move_said count from to amount fits = rw (below_said count from fits.0, below_said count to fits.1) refl

target_said : (count : ℕ) (p : Option ℕ) → IfSome p (λ target. target < count) → target_in count (target_data p) ≡ Ok p
unfolding target_in
target_said count None lt = refl
target_said count (Some n) lt = rw (below_said count n lt) refl

link_said : (ranges : Ranges) (node port : ℕ) (target : Option ℕ) → IsWithin ranges (link node port target)
    → link_of ranges (whole node ∷ whole port ∷ target_data target ∷ []) ≡ Ok (link node port target)
link_said ranges node port target is =
    rw (
      below_said ranges.nodes node is.0.0,
      below_said ranges.ports port is.1,
      target_said ranges.nodes target
          is.0.2,
    ) refl

course_said : (ranges : Ranges) (start port length : ℕ) → IsCourse ranges.nodes start port length
    → port < ranges.ports → course_of ranges (whole start ∷ whole port ∷ whole length ∷ [])
    ≡ Ok (start, port, length)
course_said ranges start port length is low =
    rw (
      below_said ranges.nodes start is.starts,
      below_said ranges.ports port low,
      ranged_said 1 64 length is.some
          is.few,
    ) refl

sum_said : (ranges : Ranges) (start port length : ℕ) → IsWithin ranges (sum start port length)
    → sum_of ranges (whole start ∷ whole port ∷ whole length ∷ []) ≡ Ok (sum start port length)
unfolding sum_of
sum_said ranges start port length is = rw (course_said ranges start port length is.0 is.1) refl

reverse_said : (ranges : Ranges) (start port length : ℕ) → IsWithin ranges (reverse start port length)
    → reverse_of ranges (whole start ∷ whole port ∷ whole length ∷ []) ≡ Ok (reverse start port length)
unfolding reverse_of
reverse_said ranges start port length is = rw (course_said ranges start port length is.0 is.1) refl

peek_said : (count node : ℕ) → node < count → peek_of count (whole node ∷ []) ≡ Ok (peek node)
peek_said count node lt = rw (below_said count node lt) refl

locking_said : (ranges : Ranges) (t : Transaction) → IsWithin ranges t → TakesLocks t → locking_in ranges (transaction_data t) ≡ Ok t
unfolding locking_in
locking_said ranges (get b nodes) is locks = get_said ranges.nodes b nodes is.0
locking_said ranges (add b pairs) is locks = add_said ranges.nodes b pairs is.0
locking_said ranges (move from to amount) is locks = move_said ranges.nodes from to amount is.0
locking_said ranges (link node port target) is locks = link_said ranges node port target is
locking_said ranges (sum start port length) is locks = sum_said ranges start port length is
locking_said ranges (reverse start port length) is locks = reverse_said ranges start port length is
locking_said ranges (peek node) is locks = absurd locks

-- ---- acts

-- what an act is that does the transaction which was read, or the fault
abbrev doing : Result Transaction InputFault → Result Action InputFault
doing r = r >>= λ t. Ok (does t)

does_said : (ranges : Ranges) (t : Transaction) → IsWithin ranges t → act_in ranges (transaction_data t) ≡ Ok (does t)
unfolding act_in
does_said ranges (get b nodes) is = ap doing (get_said ranges.nodes b nodes is.0)
does_said ranges (add b pairs) is = ap doing (add_said ranges.nodes b pairs is.0)
does_said ranges (move from to amount) is = ap doing (move_said ranges.nodes from to amount is.0)
does_said ranges (link node port target) is = ap doing (link_said ranges node port target is)
does_said ranges (sum start port length) is = ap doing (sum_said ranges start port length is)
does_said ranges (reverse start port length) is = ap doing (reverse_said ranges start port length is)
does_said ranges (peek node) is = ap doing (peek_said ranges.nodes node is.0)

act_said : (ranges : Ranges) (x : Action) → IsActWithin ranges x → act_in ranges (act_data x) ≡ Ok x
unfolding act_in
act_said ranges (does t) suits = does_said ranges t suits
act_said ranges (interruptible t) suits = ap (λ r. r >>= λ t. Ok (interruptible t)) (locking_said ranges t suits.0 suits.1)
act_said ranges (cancels script) suits = rw (below_said ranges.scripts script suits) refl

-- ---- the graph

port_said : (count : ℕ) → count ≤ 64 → (p : Option ℕ) → IfSome p (λ target. target < count) → port_in count (target_data p) ≡ Ok p
unfolding port_in
port_said count few None lt = refl
port_said count few (Some n) lt = rw (below_said 64 n (omega arith), lt-ltb n count lt) refl

-- ports that lead nowhere are as many times none
pub none_repeated : (ps : List (Option ℕ)) → AllByRecursion (λ p. p ≡ None) ps → ps ≡ replicate (length ps) None
none_repeated [] all = refl
none_repeated (p ∷ ps) all = ap (λ q. q ∷ ps) all.0 ∙ ap (λ qs. None ∷ qs) (none_repeated ps all.1)

all_taken : {X : Type 0} (P : X → Type 0) (k : ℕ) (xs : List X) → AllByRecursion P xs → AllByRecursion P (take k xs)
all_taken P zero xs all = tt
all_taken P (suc k) [] all = tt
all_taken P (suc k) (x ∷ xs) all = (all.0, all_taken P k xs all.1)

-- the ports of a node, of which those from `used` on are empty, are the first ones and empty ones
pub padded_said : (used : ℕ) (ps : List (Option ℕ)) → used ≤ PORTS → length ps ≡ PORTS → AllByRecursion (λ p. p ≡ None) (drop used ps)
    → let first = take used ps in (length first ≡ used) × (ps ≡ first ++ replicate (PORTS - length first) None)
padded_said used ps few many empty =
    let first = take used ps in
    let some : length first ≡ used = length-take-le used ps (omega (arith, few, many)) in
    let rest : length (drop used ps) ≡ PORTS - length first = omega (arith, length-drop used ps, some, many) in
    (some, sym (take-append-drop used ps) ∙ ap (λ qs. first ++ qs) (none_repeated (drop used ps) empty ∙ ap (λ k. replicate k None) rest))

-- the node's ports lead to nodes that are there, and those that the version lacks lead nowhere
abbrev IsWhole : Version → ℕ → Node → Type 0
IsWhole version count node = IsNodeOf count node × IsEmptyFrom (ports_of version) node

ports_said : (version : Version) (count : ℕ) → count ≤ 64 → (node : Node) → IsWhole version count node
    → ports_in version count (list (map target_data (take (ports_of version) node.ports))) ≡ Ok node.ports
unfolding ports_in
ports_said version count few node is =
    let used = ports_of version in
    let first = take used node.ports in
    let padded = padded_said used node.ports (few_ports version) is.1.0 is.1.1 in
    let n = length-map first target_data in
    let least : used ≤ length (map target_data first) = omega (arith, n, padded.0) in
    let most : length (map target_data first) ≤ used = omega (arith, n, padded.0) in
    let all = all_taken (λ p. IfSome p (λ target. target < count)) used node.ports is.0 in
    rw (
      counted_said used used (map target_data first) least most,
      each_said
          (λ p. IfSome p (λ target. target < count)) target_data (port_in count) first (port_said count few) all,
    )
    (ap (λ ps. Ok ps) (sym padded.1))

node_said : (version : Version) (count : ℕ) → count ≤ 64 → (node : Node) → IsWhole version count node
    → node_in version count (node_data (ports_of version) node) ≡ Ok node
unfolding node_in
node_said version count few node is = rw (ports_said version count few node is) refl

both_all : {A : Type 0} (P Q : A → Type 0) (xs : List A) → AllByRecursion P xs → AllByRecursion Q xs → AllByRecursion (λ x. P x × Q x) xs
both_all P Q [] p q = tt
both_all P Q (x ∷ xs) p q = ((p.0, q.0), both_all P Q xs p.1 q.1)

graph_said : (version : Version) (graph : List Node) → IsGraph graph → AreEmptyFrom (ports_of version) graph
    → graph_in version (list (map (node_data (ports_of version)) graph)) ≡ Ok graph
unfolding graph_in
graph_said version graph is unused =
    let said = node_data (ports_of version) in
    let n = length-map graph said in
    let least : 1 ≤ length (map said graph) = omega (arith, n, is.some) in
    let most : length (map said graph) ≤ 64 = omega (arith, n, is.few) in
    let all = both_all (IsNodeOf (length graph)) (IsEmptyFrom (ports_of version)) graph is.closed unused in
    rw (
      counted_said 1 64 (map said graph) least most,
      n,
      each_said (IsWhole version (length graph)) said
          (node_in version (length graph)) graph (node_said version (length graph) is.few) all,
    ) refl

-- ---- scripts

script_said : (ranges : Ranges) (xs : List Action) → IsScript ranges xs → script_in ranges (script_data xs) ≡ Ok xs
unfolding script_in
script_said ranges xs is =
    let n = length-map xs act_data in
    let most : length (map act_data xs) ≤ 10000 = omega (arith, is.few) in
    rw (
      counted_said 0 10000 (map act_data xs) (omega arith) most,
      each_said (IsActWithin ranges) act_data (act_in ranges)
          xs (act_said ranges) is.suit,
    ) refl

scripts_said : (nodes ports : ℕ) (ss : List (List Action)) → 1 ≤ length ss → length ss ≤ 16
    → AllByRecursion (IsScript (ranges_of nodes ports (length ss))) ss
    → scripts_in nodes ports (list (map script_data ss)) ≡ Ok ss
unfolding scripts_in
scripts_said nodes ports ss some few all =
    let n = length-map ss script_data in
    let least : 1 ≤ length (map script_data ss) = omega arith in
    let most : length (map script_data ss) ≤ 16 = omega arith in
    let ranges = ranges_of nodes ports (length ss) in
    rw (
      counted_said 1 16 (map script_data ss) least most,
      n,
      each_said (IsScript ranges) script_data
          (script_in ranges) ss (script_said ranges) all,
    ) refl

-- the fields of an object of five keys
pub plan_said : (version : Version) (plan : Plan) → plan.ports ≡ ports_of version → IsPlan plan
    → plan_in version 5 (plan_data plan) ≡ Ok plan
unfolding plan_in
plan_said version plan used is =
    let unused = rw used at is.unused in
    let each = rw used at is.each in
    rw (
      used,
      kind_said plan.kind,
      graph_said version plan.graph is.graph unused,
      scripts_said (length plan.graph)
          (ports_of version) plan.scripts is.some is.few each,
    ) refl
