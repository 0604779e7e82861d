-- What is read as scripts keeps to its ranges.
use Rattle.std.proofs.Common.{◌≡◌, ℕ, zero, suc, ◌-◌, ◌<◌, ◌≤◌, cond, inl, inr, List, [], ◌∷◌, ◌++◌, length, length-append, drop, replicate, Option, Some, None, Result, Ok, Err, refl, sym, ap, subst, ◌∙◌, arith}
use Rattle.std.proofs.lemmas.List.{length-replicate}
use lib.Seq.{drop-append_seam}
use Rattle.std.specs.Prelude.{codes, bytes_eq, IfSome, nat_lt, is_some}
use Rattle.std.specs.List.{AllByRecursion}
use Rattle.std.proofs.lemmas.Bool.{ltb-true}
use Rattle.serde_json.specs.Data.{Data}
use Rattle.serde_json.specs.Find.{as_null}
use Rattle.ww_plain.specs.declared.node.Node.{Node}
use Rattle.ww_plain.specs.declared.node.TheConstants.{PORTS}
use Rattle.ww_plain.specs.Graph.{IsNodeOf, IsEmptyFrom, AreEmptyFrom, IsGraph}
use Rattle.ww_plain.specs.Transaction.{Transaction, get, add, move, link, sum, reverse, peek, IsCourse}
use Rattle.ww_json.specs.declared.fault.InputFault.{InputFault}
use Rattle.ww_json.specs.declared.fault.InputFault.TheVariants.{BadGraph}
use Rattle.ww_json.specs.Parts.{◌>>=◌, each, counted, ranged, array, below, boolean, number, size, member, only, text}
use Rattle.ww_json.specs.Kinds.{kind_in}
use Rattle.ww_json.proofs.Kept.{bind_ok, guard_ok, ok_is, either_kept, each_kept, below_kept, ranged_kept, counted_kept}
use Rattle.ww_script_parts.specs.Transactions.{by_in, get_of, pair_of, pair_in, add_of, move_of, target_in, link_of, course_of, sum_of, reverse_of, peek_of, locking_worded, transaction_worded, locking_from, locking_in}
use Rattle.ww_script_parts.specs.declared.ranges.Ranges.{Ranges}
use Rattle.ww_script_parts.specs.declared.version.Version.{Version}
use Rattle.ww_script_parts.specs.declared.version.Version.TheVariants.{One, Two}
use Rattle.ww_script_parts.specs.Versions.{ports_of, ArePorts}
use Rattle.ww_script_parts.specs.Acts.{Action, does, interruptible, cancels, TakesLocks, IsWithin, IsActWithin, cancel_of, interruptible_of, worded, act_from, act_in}
use Rattle.ww_script_parts.specs.Scripts.{Plan, IsPlan, IsScript, ranges_of, port_in, first_ports, ports_in, node_in, graph_in, script_in, scripts_in, plan_in}

-- ---- transactions and acts

-- the port is empty, or one of so many nodes
abbrev IsPort : ℕ → Option ℕ → Type 0
IsPort count port = IfSome port (λ target. target < count)

module _ (ranges : Ranges) (few : ranges.ports ≤ PORTS) where
  -- the transaction is in range, and takes locks
  abbrev IsLocking : Transaction → Type 0
  IsLocking t = IsWithin ranges t × TakesLocks t

  get_kept : (ds : List Data) (t : Transaction) → get_of ranges.nodes ds ≡ Ok t → IsLocking t
  get_kept [] t e = absurd cc
  get_kept (a ∷ []) t e = absurd cc
  get_kept (a ∷ b ∷ []) t e =
      let w = bind_ok (by_in a) _ t e in
      let xs = bind_ok (counted 1 64 b) _ t w.2 in
      let ns = bind_ok (each (below ranges.nodes) xs.0) (λ ns. let r : Result Transaction InputFault = Ok (get w.0 ns) in r) t xs.2 in
      let c = counted_kept 1 64 b xs.0 xs.1 in
      let p = each_kept (λ n. n < ranges.nodes) (below ranges.nodes) xs.0 ns.0 (below_kept ranges.nodes) ns.1 in
      subst IsLocking (ok_is (get w.0 ns.0) t ns.2)
      (((record { some = omega (arith, c.0, p.1); few = omega (arith, c.1, p.1) }, p.0), tt), tt)
  get_kept (a ∷ b ∷ c ∷ ds) t e = absurd cc

  pair_of_kept : (ds : List Data) (p : ℕ × ℕ) → pair_of ranges.nodes ds ≡ Ok p → p.0 < ranges.nodes
  pair_of_kept [] p e = absurd cc
  pair_of_kept (a ∷ []) p e = absurd cc
  pair_of_kept (a ∷ b ∷ []) p e =
      let n = bind_ok (below ranges.nodes a) _ p e in
      let k = bind_ok (number b) (λ k. let r : Result (ℕ × ℕ) InputFault = Ok (n.0, k) in r) p n.2 in
      let made : ℕ × ℕ = (n.0, k.0) in
      subst (λ (q : ℕ × ℕ). q.0 < ranges.nodes) (ok_is made p k.2) (below_kept ranges.nodes a n.0 n.1)
  pair_of_kept (a ∷ b ∷ c ∷ ds) p e = absurd cc

  pair_kept : (d : Data) (p : ℕ × ℕ) → pair_in ranges.nodes d ≡ Ok p → p.0 < ranges.nodes
  unfolding pair_in
  pair_kept d p e = let a = bind_ok (array d) (pair_of ranges.nodes) p e in pair_of_kept a.0 p a.2

  add_kept : (ds : List Data) (t : Transaction) → add_of ranges.nodes ds ≡ Ok t → IsLocking t
  add_kept [] t e = absurd cc
  add_kept (a ∷ []) t e = absurd cc
  add_kept (a ∷ b ∷ []) t e =
      let w = bind_ok (by_in a) _ t e in
      let xs = bind_ok (counted 1 64 b) _ t w.2 in
      let ps = bind_ok (each (pair_in ranges.nodes) xs.0) (λ ps. let r : Result Transaction InputFault = Ok (add w.0 ps) in r) t xs.2 in
      let c = counted_kept 1 64 b xs.0 xs.1 in
      let p = each_kept (λ (q : ℕ × ℕ). q.0 < ranges.nodes) (pair_in ranges.nodes) xs.0 ps.0 pair_kept ps.1 in
      subst IsLocking (ok_is (add w.0 ps.0) t ps.2)
      (((record { some = omega (arith, c.0, p.1); few = omega (arith, c.1, p.1) }, p.0), tt), tt)
  add_kept (a ∷ b ∷ c ∷ ds) t e = absurd cc

  move_kept : (ds : List Data) (t : Transaction) → move_of ranges.nodes ds ≡ Ok t → IsLocking t
  move_kept (a ∷ b ∷ c ∷ []) t e =
      let m = bind_ok (below ranges.nodes a) _ t e in
      let n = bind_ok (below ranges.nodes b) _ t m.2 in
      let k = bind_ok (number c) (λ k. let r : Result Transaction InputFault = Ok (move m.0 n.0 k) in r) t n.2 in
      subst IsLocking (ok_is (move m.0 n.0 k.0) t k.2) (((below_kept ranges.nodes a m.0 m.1, below_kept ranges.nodes b n.0 n.1), tt), tt)
  move_kept _ t e = absurd cc

  target_kept : (d : Data) (p : Option ℕ) → target_in ranges.nodes d ≡ Ok p → IsPort ranges.nodes p
  unfolding target_in
  target_kept d p e =
      either_kept (IsPort ranges.nodes) (is_some (as_null d)) (Ok None) (below ranges.nodes d >>= λ n. Ok (Some n)) p
      (λ none. subst (IsPort ranges.nodes) (ok_is None p none) tt)
      (λ some.
      let a = bind_ok (below ranges.nodes d) (λ n. let r : Result (Option ℕ) InputFault = Ok (Some n) in r) p some in
      subst (IsPort ranges.nodes) (ok_is (Some a.0) p a.2) (below_kept ranges.nodes d a.0 a.1)) e

  link_kept : (ds : List Data) (t : Transaction) → link_of ranges ds ≡ Ok t → IsLocking t
  link_kept (a ∷ b ∷ c ∷ []) t e =
      let n = bind_ok (below ranges.nodes a) _ t e in
      let p = bind_ok (below ranges.ports b) _ t n.2 in
      let k = bind_ok (target_in ranges.nodes c) (λ k. let r : Result Transaction InputFault = Ok (link n.0 p.0 k) in r) t p.2 in
      let port = below_kept ranges.ports b p.0 p.1 in
      subst IsLocking (ok_is (link n.0 p.0 k.0) t k.2)
      (((below_kept ranges.nodes a n.0 n.1, omega (arith, few, port), target_kept c k.0 k.1), port), tt)
  link_kept _ t e = absurd cc

  -- a walk's start, port and length are those of a course, and the port is in range
  abbrev IsCourseWithin : ℕ × ℕ × ℕ → Type 0
  IsCourseWithin c = IsCourse ranges.nodes c.0 c.1 c.2 × (c.1 < ranges.ports)

  course_kept : (ds : List Data) (c : ℕ × ℕ × ℕ) → course_of ranges ds ≡ Ok c → IsCourseWithin c
  course_kept (a ∷ b ∷ c ∷ []) k e =
      let s = bind_ok (below ranges.nodes a) _ k e in
      let p = bind_ok (below ranges.ports b) _ k s.2 in
      let n = bind_ok (ranged 1 64 c) (λ n. let r : Result (ℕ × ℕ × ℕ) InputFault = Ok (s.0, p.0, n) in r) k p.2 in
      let w = ranged_kept 1 64 c n.0 n.1 in
      let made : ℕ × ℕ × ℕ = (s.0, p.0, n.0) in
      let port = below_kept ranges.ports b p.0 p.1 in
      subst IsCourseWithin (ok_is made k n.2)
      (record { starts = below_kept ranges.nodes a s.0 s.1; port = omega (arith, few, port); some = w.0; few = w.1 }, port)
  course_kept _ k e = absurd cc

  sum_kept : (ds : List Data) (t : Transaction) → sum_of ranges ds ≡ Ok t → IsLocking t
  unfolding sum_of
  sum_kept ds t e =
      let k = bind_ok (course_of ranges ds) (λ (c : ℕ × ℕ × ℕ). let r : Result Transaction InputFault = Ok (sum c.0 c.1 c.2) in r) t e in
      subst IsLocking (ok_is (sum k.0.0 k.0.1 k.0.2) t k.2) (course_kept ds k.0 k.1, tt)

  reverse_kept : (ds : List Data) (t : Transaction) → reverse_of ranges ds ≡ Ok t → IsLocking t
  unfolding reverse_of
  reverse_kept ds t e =
      let k = bind_ok (course_of ranges ds)
      (λ (c : ℕ × ℕ × ℕ). let r : Result Transaction InputFault = Ok (reverse c.0 c.1 c.2) in r) t e in
      subst IsLocking (ok_is (reverse k.0.0 k.0.1 k.0.2) t k.2) (course_kept ds k.0 k.1, tt)

  peek_kept : (ds : List Data) (t : Transaction) → peek_of ranges.nodes ds ≡ Ok t → IsWithin ranges t
  peek_kept [] t e = absurd cc
  peek_kept (a ∷ []) t e =
      let n = bind_ok (below ranges.nodes a) (λ n. let r : Result Transaction InputFault = Ok (peek n) in r) t e in
      subst (IsWithin ranges) (ok_is (peek n.0) t n.2) (below_kept ranges.nodes a n.0 n.1, tt)
  peek_kept (a ∷ b ∷ ds) t e = absurd cc

  locking_worded_kept : (word : List ℕ) (ds : List Data) (t : Transaction) → locking_worded ranges word ds ≡ Ok t → IsLocking t
  locking_worded_kept word ds t e =
      either_kept IsLocking (bytes_eq word (codes "get")) _ _ t (get_kept ds t)
      (either_kept IsLocking (bytes_eq word (codes "add")) _ _ t (add_kept ds t)
      (either_kept IsLocking (bytes_eq word (codes "move")) _ _ t (move_kept ds t)
      (either_kept IsLocking (bytes_eq word (codes "link")) _ _ t (link_kept ds t)
      (either_kept IsLocking (bytes_eq word (codes "sum")) _ _ t (sum_kept ds t)
      (either_kept IsLocking (bytes_eq word (codes "reverse")) _ _ t (reverse_kept ds t) (λ none. absurd cc)))))) e

  transaction_worded_kept : (word : List ℕ) (ds : List Data) (t : Transaction)
      → transaction_worded ranges word ds ≡ Ok t → IsWithin ranges t
  transaction_worded_kept word ds t e =
      either_kept (IsWithin ranges) (bytes_eq word (codes "peek")) _ _ t (peek_kept ds t)
      (λ locking. (locking_worded_kept word ds t locking).0) e

  locking_from_kept : (ds : List Data) (t : Transaction) → locking_from ranges ds ≡ Ok t → IsLocking t
  locking_from_kept [] t e = absurd cc
  locking_from_kept (d ∷ ds) t e =
      let w = bind_ok (text d) (λ word. locking_worded ranges word ds) t e in
      locking_worded_kept w.0 ds t w.2

  locking_kept : (d : Data) (t : Transaction) → locking_in ranges d ≡ Ok t → IsLocking t
  unfolding locking_in
  locking_kept d t e =
      let a = bind_ok (array d) (locking_from ranges) t e in
      locking_from_kept a.0 t a.2

  -- ---- acts

  cancel_kept : (ds : List Data) (x : Action) → cancel_of ranges.scripts ds ≡ Ok x → IsActWithin ranges x
  cancel_kept [] x e = absurd cc
  cancel_kept (a ∷ []) x e =
      let n = bind_ok (below ranges.scripts a) (λ n. let r : Result Action InputFault = Ok (cancels n) in r) x e in
      subst (IsActWithin ranges) (ok_is (cancels n.0) x n.2) (below_kept ranges.scripts a n.0 n.1)
  cancel_kept (a ∷ b ∷ ds) x e = absurd cc

  interruptible_kept : (ds : List Data) (x : Action) → interruptible_of ranges ds ≡ Ok x → IsActWithin ranges x
  interruptible_kept [] x e = absurd cc
  interruptible_kept (a ∷ []) x e =
      let t = bind_ok (locking_in ranges a) (λ t. let r : Result Action InputFault = Ok (interruptible t) in r) x e in
      subst (IsActWithin ranges) (ok_is (interruptible t.0) x t.2) (locking_kept a t.0 t.1)
  interruptible_kept (a ∷ b ∷ ds) x e = absurd cc

  does_kept : (word : List ℕ) (ds : List Data) (x : Action)
      → (transaction_worded ranges word ds >>= λ t. Ok (does t)) ≡ Ok x → IsActWithin ranges x
  does_kept word ds x e =
      let t = bind_ok (transaction_worded ranges word ds) (λ t. let r : Result Action InputFault = Ok (does t) in r) x e in
      subst (IsActWithin ranges) (ok_is (does t.0) x t.2) (transaction_worded_kept word ds t.0 t.1)

  worded_kept : (word : List ℕ) (ds : List Data) (x : Action) → worded ranges word ds ≡ Ok x → IsActWithin ranges x
  worded_kept word ds x e =
      either_kept (IsActWithin ranges) (bytes_eq word (codes "cancel")) _ _ x (cancel_kept ds x)
      (either_kept (IsActWithin ranges) (bytes_eq word (codes "interruptible")) _ _ x (interruptible_kept ds x)
      (does_kept word ds x)) e

  act_from_kept : (ds : List Data) (x : Action) → act_from ranges ds ≡ Ok x → IsActWithin ranges x
  act_from_kept [] x e = absurd cc
  act_from_kept (d ∷ ds) x e =
      let w = bind_ok (text d) (λ word. worded ranges word ds) x e in
      worded_kept w.0 ds x w.2

  act_kept : (d : Data) (x : Action) → act_in ranges d ≡ Ok x → IsActWithin ranges x
  unfolding act_in
  act_kept d x e =
      let a = bind_ok (array d) (act_from ranges) x e in
      act_from_kept a.0 x a.2

-- ---- the graph

port_kept : (count : ℕ) (d : Data) (p : Option ℕ) → port_in count d ≡ Ok p → IsPort count p
unfolding port_in
port_kept count d p e =
    either_kept (IsPort count) (is_some (as_null d)) (Ok None) (below 64 d >>= λ n. cond (nat_lt n count) (Ok (Some n)) (Err BadGraph)) p
    (λ none. subst (IsPort count) (ok_is None p none) tt)
    (λ some.
    let a = bind_ok (below 64 d) (λ n. cond (nat_lt n count) (Ok (Some n)) (Err BadGraph)) p some in
    let g = guard_ok (nat_lt a.0 count) BadGraph (Some a.0) p a.2 in
    subst (IsPort count) g.1 (ltb-true _ _ g.0)) e

all_replicated : {X : Type 0} (P : X → Type 0) (k : ℕ) (x : X) → P x → AllByRecursion P (replicate k x)
all_replicated P zero x p = tt
all_replicated P (suc k) x p = (p, all_replicated P k x p)

all_appended : {X : Type 0} (P : X → Type 0) (xs ys : List X) → AllByRecursion P xs → AllByRecursion P ys → AllByRecursion P (xs ++ ys)
all_appended P [] ys all more = more
all_appended P (x ∷ xs) ys all more = (all.0, all_appended P xs ys all.1 more)

-- the ports lead to nodes that are there, there are as many as a node has, and those from `used` on lead nowhere
abbrev ArePortsOf : ℕ → ℕ → List (Option ℕ) → Type 0
ArePortsOf used count ps =
    AllByRecursion (IsPort count) ps × (length ps ≡ PORTS) × AllByRecursion (λ port. port ≡ None) (drop used ps)

-- the ports that were read, behind which the others are empty
padded_kept : (used count : ℕ) (ps : List (Option ℕ)) → used ≤ PORTS → length ps ≡ used → AllByRecursion (IsPort count) ps
    → ArePortsOf used count (ps ++ replicate (PORTS - length ps) None)
padded_kept used count ps few many all =
    let others = PORTS - length ps in
    let behind : drop used (ps ++ replicate others None) ≡ replicate others None =
    ap (λ k. drop k (ps ++ replicate others None)) (sym many) ∙ drop-append_seam ps (replicate others None) in (
      all_appended (IsPort count) ps (replicate others None) all (all_replicated (IsPort count) others None tt),
      omega (arith, length-append ps (replicate others None), length-replicate {A = Option ℕ} others None, few, many),
      subst (AllByRecursion (λ port. port ≡ None)) (sym behind) (all_replicated (λ port. port ≡ None) others None refl),
    )

-- no version has more ports than there are
pub few_ports : (version : Version) → ports_of version ≤ PORTS
few_ports One = omega arith
few_ports Two = omega arith

ports_kept : (version : Version) (count : ℕ) (d : Data) (ps : List (Option ℕ)) → ports_in version count d ≡ Ok ps
    → ArePortsOf (ports_of version) count ps
unfolding ports_in
ports_kept version count d ps e =
    let used = ports_of version in
    let a = bind_ok (counted used used d) (λ ds. first_ports (each (port_in count) ds)) ps e in
    let b = bind_ok (each (port_in count) a.0)
    (λ qs. let r : Result (List (Option ℕ)) InputFault = Ok (qs ++ replicate (PORTS - length qs) None) in r) ps
    a.2 in
    let c = counted_kept used used d a.0 a.1 in
    let p = each_kept (IsPort count) (port_in count) a.0 b.0 (port_kept count) b.1 in
    subst (ArePortsOf used count) (ok_is (b.0 ++ replicate (PORTS - length b.0) None) ps b.2)
    (padded_kept used count b.0 (few_ports version) (omega (arith, c.0, c.1, p.1)) p.0)

node_kept : (version : Version) (count : ℕ) (d : Data) (n : Node) → node_in version count d ≡ Ok n
    → ArePortsOf (ports_of version) count n.ports
unfolding node_in
node_kept version count d n e =
    let m = bind_ok (size d) _ n e in
    let v = bind_ok (member (codes "value") d) _ n m.2 in
    let p = bind_ok (member (codes "ports") d) _ n v.2 in
    let o = bind_ok (only 2 m.0) _ n p.2 in
    let k = bind_ok (number v.0) _ n o.2 in
    let ps = bind_ok (ports_in version count p.0)
    (λ (ps : List (Option ℕ)). let r : Result Node InputFault = Ok (record { value = k.0; ports = ps }) in r) n
    k.2 in
    let made : Node = record { value = k.0; ports = ps.0 } in
    subst (λ (node : Node). ArePortsOf (ports_of version) count node.ports) (ok_is made n ps.2) (ports_kept version count p.0 ps.0 ps.1)

pub graph_kept : (version : Version) (d : Data) (ns : List Node) → graph_in version d ≡ Ok ns → IsGraph ns
    × AreEmptyFrom (ports_of version) ns
unfolding graph_in
graph_kept version d ns e =
    let a = bind_ok (counted 1 64 d) (λ ds. each (node_in version (length ds)) ds) ns e in
    let c = counted_kept 1 64 d a.0 a.1 in
    let p = each_kept (IsNodeOf (length a.0)) (node_in version (length a.0)) a.0 ns
    (λ d n e. (node_kept version (length a.0) d n e).0) a.2 in
    let q = each_kept (IsEmptyFrom (ports_of version)) (node_in version (length a.0)) a.0 ns
    (λ d n e. let is = node_kept version (length a.0) d n e in (is.1, is.2)) a.2 in (
      record {
        some = omega (arith, c.0, p.1);
        few = omega (arith, c.1, p.1);
        closed = subst (λ k. AllByRecursion (IsNodeOf k) ns) (sym p.1) p.0;
      },
      q.0,
    )

-- ---- scripts

script_kept : (ranges : Ranges) → ranges.ports ≤ PORTS → (d : Data) (xs : List Action) → script_in ranges d ≡ Ok xs → IsScript ranges xs
unfolding script_in
script_kept ranges few d xs e =
    let a = bind_ok (counted 0 10000 d) (λ ds. each (act_in ranges) ds) xs e in
    let c = counted_kept 0 10000 d a.0 a.1 in
    let p = each_kept (IsActWithin ranges) (act_in ranges) a.0 xs (act_kept ranges few) a.2 in
    record { few = omega (arith, c.1, p.1); suit = p.0 }

-- as many scripts as there may be, each of them one
pub record AreScripts (nodes ports : ℕ) (scripts : List (List Action)) : Type 0 where
  pub some : 1 ≤ length scripts
  pub few : length scripts ≤ 16
  pub each : AllByRecursion (IsScript (ranges_of nodes ports (length scripts))) scripts

pub scripts_kept : (nodes : ℕ) (version : Version) (d : Data) (ss : List (List Action))
    → scripts_in nodes (ports_of version) d ≡ Ok ss → AreScripts nodes (ports_of version) ss
unfolding scripts_in
scripts_kept nodes version d ss e =
    let ranges = ranges_of nodes (ports_of version) in
    let a = bind_ok (counted 1 16 d) (λ ds. each (script_in (ranges (length ds))) ds) ss e in
    let c = counted_kept 1 16 d a.0 a.1 in
    let p = each_kept (IsScript (ranges (length a.0))) (script_in (ranges (length a.0))) a.0 ss
    (script_kept (ranges (length a.0)) (few_ports version)) a.2 in
    record {
      some = omega (arith, c.0, p.1);
      few = omega (arith, c.1, p.1);
      each = subst (λ k. AllByRecursion (IsScript (ranges k)) ss) (sym p.1) p.0;
    }

-- a version has the ports of one
pub are_ports : (version : Version) → ArePorts (ports_of version)
are_ports One = inl refl
are_ports Two = inr refl

pub plan_kept : (version : Version) (members : ℕ) (d : Data) (plan : Plan) → plan_in version members d ≡ Ok plan → IsPlan plan
unfolding plan_in
plan_kept version members d plan e =
    let k = bind_ok (member (codes "kind") d) _ plan e in
    let h = bind_ok (member (codes "history") d) _ plan k.2 in
    let n = bind_ok (member (codes "nodes") d) _ plan h.2 in
    let s = bind_ok (member (codes "scripts") d) _ plan n.2 in
    let o = bind_ok (only 5 members) _ plan s.2 in
    let kind = bind_ok (kind_in k.0) _ plan o.2 in
    let history = bind_ok (boolean h.0) _ plan kind.2 in
    let graph = bind_ok (graph_in version n.0) _ plan history.2 in
    let made : List (List Action) → Plan = λ ss.
    record { kind = kind.0; history = history.0; ports = ports_of version; graph = graph.0; scripts = ss } in
    let ss = bind_ok (scripts_in (length graph.0) (ports_of version) s.0)
    (λ (ss : List (List Action)). let r : Result Plan InputFault = Ok (made ss) in r) plan graph.2 in
    let all = scripts_kept (length graph.0) version s.0 ss.0 ss.1 in
    let g = graph_kept version n.0 graph.0 graph.1 in
    subst IsPlan (ok_is (made ss.0) plan ss.2)
    (record { version = are_ports version; graph = g.0; unused = g.1; some = all.some; few = all.few; each = all.each })
