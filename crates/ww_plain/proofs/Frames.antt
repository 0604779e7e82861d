-- Only a transaction's footprint changes, and only its footprint matters.
use Rattle.std.proofs.Common.{◌≡◌, ◌≢◌, ℕ, zero, suc, ◌+◌, ◌-◌, ◌%◌, ◌^◌, ◌↔◌, Bool, true, false, ◌||◌, nat_lt, eqb, ◌⊎◌, inl, inr, List, [], ◌∷◌, length, get_or, set, map, fold, Option, Some, None, refl, sym, ap, subst, ◌∙◌, arith, length-set, get_or-set_other, sum_by, ◌≤◌}
use Rattle.std.proofs.lemmas.List.Sums.{sum_by-cons}
use Rattle.ww_plain.specs.declared.node.Node.{Node}
use Rattle.ww_plain.specs.Numbers.{is_among, with_number, distinct_of, AreDifferent}
use Rattle.ww_plain.specs.Graph.{no_node, node_at, value_of, port_of, with_value, with_port, Agree}
use Rattle.ww_plain.specs.Transaction.{Transaction, get, add, move, link, sum, reverse, peek, Fits, listed}
use Rattle.ww_plain.specs.Walk.{BeginsWith, walk_of, walk_past, stop_of, last_of, last_from, onward}
use Rattle.ww_plain.specs.Footprint.{with_target, walked, footprint_of, Concerns}
use Rattle.ww_plain.specs.Meaning.{values, was, summed, raised, moving, turned, graph_after}
use Rattle.ww_plain.specs.Laws.{IsSameInside}
use Rattle.ww_plain.proofs.Members.{or_cases, or_false, or_right, true_or_false, different_none, same_from_eqb, eqb_same, is_among-head, is_among-tail, is_among-append, different_cons}
use Rattle.ww_plain.proofs.Walks.{onward_new, gives_walk}
use Rattle.ww_plain.proofs.FootprintFacts.{different_joined}

-- ---- which nodes are in a footprint

or_no : (a b : Bool) → b ≡ false → (a || b) ≡ a
or_no true b e = refl
or_no false b e = e

or_yes : (a b : Bool) → a ≡ true → (a || b) ≡ true
or_yes a b e = rw e refl

or_taken : (a b : Bool) → (b ≡ true → a ≡ true) → (a || b) ≡ a
or_taken true b h = refl
or_taken false true h = sym (h refl)
or_taken false false h = refl

or_assoc : (a b c : Bool) → ((a || b) || c) ≡ (a || (b || c))
or_assoc true b c = refl
or_assoc false b c = refl

or_last : (a b : Bool) → (a || (b || false)) ≡ (a || b)
or_last a true = refl
or_last a false = refl

same_among : (m n : ℕ) (ns : List ℕ) → is_among m ns ≡ true → eqb m n ≡ true → is_among n ns ≡ true
same_among m n ns e same = subst (λ (k : ℕ). is_among k ns ≡ true) (same_from_eqb m n same) e

-- in the list that m joins there are those of the list, and m
pub is_among-joined : (n : ℕ) (ns : List ℕ) (m : ℕ) → is_among n (with_number ns m) ≡ (is_among n ns || eqb m n)
is_among-joined n ns m = elim (true_or_false (is_among m ns)) [
  | inl e ↦ rw e (sym (or_taken (is_among n ns) (eqb m n) (same_among m n ns e)))
  | inr e ↦ rw e (is_among-append n ns (m ∷ []) ∙ or_last (is_among n ns) (eqb m n))
]

is_among-all_joined : (n : ℕ) (ns ms : List ℕ) → is_among n (fold with_number ns ms) ≡ (is_among n ns || is_among n ms)
is_among-all_joined n ns [] = sym (or_no (is_among n ns) false refl)
is_among-all_joined n ns (m ∷ ms) =
    is_among-all_joined n (with_number ns m) ms ∙ ap (λ b. b || is_among n ms) (is_among-joined n ns m)
    ∙ or_assoc (is_among n ns) (eqb m n) (is_among n ms)

pub is_among-distinct_of : (n : ℕ) (ns : List ℕ) → is_among n (distinct_of ns) ≡ is_among n ns
is_among-distinct_of n ns = is_among-all_joined n [] ns

pub among_with_target : (n : ℕ) (ns : List ℕ) (target : Option ℕ) → is_among n ns ≡ true → is_among n (with_target ns target) ≡ true
among_with_target n ns None e = e
among_with_target n ns (Some t) e = is_among-joined n ns t ∙ or_yes (is_among n ns) (eqb t n) e

pub target_among : (ns : List ℕ) (t : ℕ) → is_among t (with_target ns (Some t)) ≡ true
target_among ns t = is_among-joined t ns t ∙ or_right (is_among t ns) (eqb t t) (eqb_same t)

not_among_target : (n : ℕ) (ns : List ℕ) (target : Option ℕ) → is_among n (with_target ns target) ≡ false → is_among n ns ≡ false
not_among_target n ns target e = elim (true_or_false (is_among n ns)) [
  | inl here ↦ let there = among_with_target n ns target here in absurd cc
  | inr absent ↦ absent
]

-- ---- outside

other_from_eqb : (m n : ℕ) → eqb m n ≡ false → n ≢ m
other_from_eqb m n e same = let yes = eqb_same m in let no = rw same at e in absurd cc

outside_set : (graph : List Node) (v n : ℕ) (node : Node) → eqb v n ≡ false → node_at (set graph v node) n ≡ node_at graph n
outside_set graph v n node e = get_or-set_other graph v n node no_node (other_from_eqb v n e)

outside_added : (graph : List Node) (amounts : List (ℕ × ℕ)) (n : ℕ)
    → is_among n (map (λ pair. pair.0) amounts) ≡ false → node_at (fold raised graph amounts) n ≡ node_at graph n
outside_added graph [] n e = refl
outside_added graph (pair ∷ pairs) n e =
    let both = or_false (eqb pair.0 n) (is_among n (map (λ p. p.0) pairs)) e in
    outside_added (raised graph pair) pairs n both.1 ∙ outside_set graph pair.0 n _ both.0

outside_moving : (graph : List Node) (from to amount n : ℕ) → eqb from n ≡ false → eqb to n ≡ false
    → node_at ((moving graph from to amount).1) n ≡ node_at graph n
outside_moving graph from to amount n a b = elim (true_or_false (nat_lt (value_of graph from) amount)) [
  | inl short ↦ rw short refl
  | inr enough ↦ rw enough (elim (true_or_false (nat_lt (2 ^ 64 - 1) (value_of graph to + amount))) [
    | inl full ↦ rw full refl
    | inr room ↦ rw room (outside_set (with_value graph from (value_of graph from - amount)) to n _ b ∙ outside_set graph from n _ a)
  ])
]

pub outside_turned : (graph : List Node) (p : ℕ) (before : Option ℕ) (vs : List ℕ) (n : ℕ) → is_among n vs ≡ false
    → node_at (turned graph p before vs) n ≡ node_at graph n
outside_turned graph p before [] n e = refl
outside_turned graph p before (v ∷ vs) n e =
    let both = or_false (eqb v n) (is_among n vs) e in
    outside_turned (with_port graph v p before) p (Some v) vs n both.1 ∙ outside_set graph v n _ both.0

pub outside : (graph : List Node) (txn : Transaction) (n : ℕ) → is_among n (footprint_of graph txn) ≡ false
    → node_at (graph_after graph txn) n ≡ node_at graph n
outside graph (get by nodes) n e = refl
outside graph (add by amounts) n e = outside_added graph amounts n (sym (is_among-distinct_of n (listed (add by amounts))) ∙ e)
outside graph (move from to amount) n e =
    let listed_not = or_false (eqb from n) (eqb to n || false) (sym (is_among-distinct_of n (from ∷ to ∷ [])) ∙ e) in
    outside_moving graph from to amount n listed_not.0 (or_false (eqb to n) false listed_not.1).0
outside graph (link node port target) n e =
    let apart = or_false (eqb node n) false (not_among_target n (node ∷ []) target e) in outside_set graph node n _ apart.0
outside graph (sum start p most) n e = refl
outside graph (reverse start p most) n e =
    outside_turned graph p (stop_of graph p (walk_of graph start p most)) (walk_of graph start p most) n
    (not_among_target n (walk_of graph start p most) (stop_of graph p (walk_of graph start p most)) e)
outside graph (peek node) n e = refl

-- ---- inside

agree_set : (graph other : List Node) (v n : ℕ) (node : Node) → length graph ≡ length other
    → node_at graph n ≡ node_at other n → node_at (set graph v node) n ≡ node_at (set other v node) n
agree_set [] [] v n node len e = e
agree_set [] (y ∷ ys) v n node len e = absurd (omega arith)
agree_set (x ∷ xs) [] v n node len e = absurd (omega arith)
agree_set (x ∷ xs) (y ∷ ys) zero zero node len e = refl
agree_set (x ∷ xs) (y ∷ ys) zero (suc n) node len e = e
agree_set (x ∷ xs) (y ∷ ys) (suc v) zero node len e = e
agree_set (x ∷ xs) (y ∷ ys) (suc v) (suc n) node len e = agree_set xs ys v n node (omega arith) e

-- two graphs of one size that agree on some nodes
pub record Alike (graph other : List Node) (ns : List ℕ) : Type 0 where
  pub sizes : length graph ≡ length other
  pub agree : Agree graph other ns

alike_set : (graph other : List Node) (ns : List ℕ) (v : ℕ) (change : Node → Node) → Alike graph other ns
    → is_among v ns ≡ true → Alike (set graph v (change (node_at graph v))) (set other v (change (node_at other v)))
    ns
alike_set graph other ns v change h e = record {
  sizes = length-set graph v (change (node_at graph v)) ∙ h.sizes ∙ sym (length-set other v (change (node_at other v)));
  agree = λ n here. rw (h.agree v e) (agree_set graph other v n (change (node_at other v)) h.sizes (h.agree n here));
}

alike_value : (graph other : List Node) (ns : List ℕ) (v value : ℕ) → Alike graph other ns → is_among v ns ≡ true
    → Alike (with_value graph v value) (with_value other v value) ns
alike_value graph other ns v value h e = alike_set graph other ns v (λ node. record node { value = value }) h e

alike_port : (graph other : List Node) (ns : List ℕ) (v p : ℕ) (target : Option ℕ) → Alike graph other ns
    → is_among v ns ≡ true → Alike (with_port graph v p target) (with_port other v p target) ns
alike_port graph other ns v p target h e = alike_set graph other ns v (λ node. record node { ports = set node.ports p target }) h e

alike_added : (graph other : List Node) (ns : List ℕ) (amounts : List (ℕ × ℕ)) → Alike graph other ns
    → ((n : ℕ) → is_among n (map (λ pair. pair.0) amounts) ≡ true → is_among n ns ≡ true)
    → Alike (fold raised graph amounts) (fold raised other amounts) ns
alike_added graph other ns [] h within = h
alike_added graph other ns (pair ∷ pairs) h within =
    let here = within pair.0 (is_among-head pair.0 (map (λ p. p.0) pairs)) in
    let values : value_of graph pair.0 ≡ value_of other pair.0 = ap (λ (node : Node). node.value) (h.agree pair.0 here) in
    let next : Alike (raised graph pair) (raised other pair) ns =
    rw values (alike_value graph other ns pair.0 ((value_of other pair.0 + pair.1) % 2 ^ 64) h here) in
    alike_added (raised graph pair) (raised other pair) ns pairs next (λ n e. within n (is_among-tail pair.0 n (map (λ p. p.0) pairs) e))

alike_turned : (graph other : List Node) (ns : List ℕ) (p : ℕ) (before : Option ℕ) (vs : List ℕ)
    → Alike graph other ns → ((n : ℕ) → is_among n vs ≡ true → is_among n ns ≡ true)
    → Alike (turned graph p before vs) (turned other p before vs) ns
alike_turned graph other ns p before [] h within = h
alike_turned graph other ns p before (v ∷ vs) h within =
    alike_turned (with_port graph v p before) (with_port other v p before) ns p (Some v) vs
    (alike_port graph other ns v p before h (within v (is_among-head v vs)))
    (λ n e. within n (is_among-tail v n vs e))

agree_onward : (target : Option ℕ) (past : List ℕ) (go other : ℕ → List ℕ)
    → ((n : ℕ) → target ≡ Some n → is_among n past ≡ false → go n ≡ other n)
    → onward target past go ≡ onward target past other
agree_onward None past go other h = refl
agree_onward (Some n) past go other h =
    elim (true_or_false (is_among n past)) [ inl seen ↦ rw seen refl | inr unseen ↦ rw unseen (h n refl unseen) ]

walk_past_agrees : (graph other : List Node) (p most : ℕ) (past : List ℕ) (v : ℕ)
    → Agree graph other (walk_past graph p most past v)
    → walk_past graph p most past v ≡ walk_past other p most past v
unfolding walk_past
walk_past_agrees graph other p zero past v agree = refl
walk_past_agrees graph other p (suc most) past v agree =
    let rest = onward (port_of graph v p) (v ∷ past) (λ n. walk_past graph p most (v ∷ past) n) in
    let ports : port_of graph v p ≡ port_of other v p = ap (λ (node : Node). get_or node.ports p None) (agree v (is_among-head v rest)) in
    let later = agree_onward (port_of graph v p) (v ∷ past) (λ n. walk_past graph p most (v ∷ past) n)
    (λ n. walk_past other p most (v ∷ past) n) (λ n e unseen.
    let goes = onward_new (port_of graph v p) n (v ∷ past) (λ m. walk_past graph p most (v ∷ past) m) e unseen in
    walk_past_agrees graph other p most (v ∷ past) n
    (λ m here. agree m (is_among-tail v m rest
    (subst (λ (ws : List ℕ). is_among m ws ≡ true) (sym goes) here)))) in
    ap (λ ws. v ∷ ws) (later ∙ ap (λ target. onward target (v ∷ past) (λ n. walk_past other p most (v ∷ past) n)) ports)

walk_agrees : (graph other : List Node) (start p most : ℕ) → Agree graph other (walk_of graph start p most)
    → walk_of graph start p most ≡ walk_of other start p most
unfolding walk_of
walk_agrees graph other start p most agree = walk_past_agrees graph other p most [] start agree

last_among : (v : ℕ) (ws : List ℕ) → is_among (last_from v ws) (v ∷ ws) ≡ true
last_among v [] = is_among-head v []
last_among v (w ∷ ws) = is_among-tail v (last_from w ws) (w ∷ ws) (last_among w ws)

last_of_begun : (vs : List ℕ) (start : ℕ) → BeginsWith vs start → is_among (last_of vs) vs ≡ true
last_of_begun [] start begins = absurd begins
last_of_begun (v ∷ ws) start begins = last_among v ws

stop_agrees : (graph other : List Node) (p : ℕ) (vs : List ℕ) (start : ℕ) → BeginsWith vs start
    → Agree graph other vs → stop_of graph p vs ≡ stop_of other p vs
stop_agrees graph other p vs start begins agree =
    ap (λ (node : Node). get_or node.ports p None) (agree (last_of vs) (last_of_begun vs start begins))

moving_agrees : (graph other : List Node) (ns : List ℕ) (from to amount : ℕ) → Alike graph other ns
    → is_among from ns ≡ true → is_among to ns ≡ true
    → ((moving other from to amount).0 ≡ (moving graph from to amount).0)
    × Agree ((moving graph from to amount).1) ((moving other from to amount).1) ns
moving_agrees graph other ns from to amount h a b =
    let source : value_of graph from ≡ value_of other from = ap (λ (node : Node). node.value) (h.agree from a) in
    let goal : value_of graph to ≡ value_of other to = ap (λ (node : Node). node.value) (h.agree to b) in
    rw (source, goal) (elim (true_or_false (nat_lt (value_of other from) amount)) [
      | inl short ↦ rw short (refl, h.agree)
      | inr enough ↦ rw enough (elim (true_or_false (nat_lt (2 ^ 64 - 1) (value_of other to + amount))) [
        | inl full ↦ rw full (refl, h.agree)
        | inr room ↦ rw room (
          refl,
          (alike_value (with_value graph from (value_of other from - amount))
              (with_value other from (value_of other from - amount)) ns to (value_of other to + amount)
              (alike_value graph other ns from (value_of other from - amount) h a) b).agree,
        )
      ])
    ])

values_agree : (graph other : List Node) (ns nodes : List ℕ) → Agree graph other ns
    → ((n : ℕ) → is_among n nodes ≡ true → is_among n ns ≡ true)
    → map (value_of other) nodes ≡ map (value_of graph) nodes
values_agree graph other ns [] agree within = refl
values_agree graph other ns (m ∷ ms) agree within =
    let here = ap (λ (node : Node). node.value) (agree m (within m (is_among-head m ms))) in
    let later = values_agree graph other ns ms agree (λ n e. within n (is_among-tail m n ms e)) in
    rw (here, later) refl

sums_agree : (graph other : List Node) (ns nodes : List ℕ) → Agree graph other ns
    → ((n : ℕ) → is_among n nodes ≡ true → is_among n ns ≡ true)
    → sum_by (value_of other) nodes ≡ sum_by (value_of graph) nodes
sums_agree graph other ns [] agree within = refl
sums_agree graph other ns (m ∷ ms) agree within =
    let here : value_of graph m ≡ value_of other m = ap (λ (node : Node). node.value) (agree m (within m (is_among-head m ms))) in
    let later = sums_agree graph other ns ms agree (λ n e. within n (is_among-tail m n ms e)) in
    let first = sum_by-cons (value_of other) m ms in
    let second = sum_by-cons (value_of graph) m ms in
    omega (arith, here, later, first, second)

-- what two graphs that agree on a walk and its stop say of the walk
record SameWalk (graph other : List Node) (start p most : ℕ) : Type 0 where
  walk : walk_of graph start p most ≡ walk_of other start p most
  stop : stop_of graph p (walk_of graph start p most) ≡ stop_of other p (walk_of graph start p most)

same_walk : (graph other : List Node) (start p most : ℕ) → 1 ≤ most
    → Agree graph other (walked graph p (walk_of graph start p most)) → SameWalk graph other start p most
same_walk graph other start p most some agree =
    let vs = walk_of graph start p most in
    let on_walk : Agree graph other vs = λ n e. agree n (among_with_target n vs (stop_of graph p vs) e) in
    record {
      walk = walk_agrees graph other start p most on_walk;
      stop = stop_agrees graph other p vs start (gives_walk graph start p most some).begins on_walk;
    }

pub inside : (graph other : List Node) (txn : Transaction) → Fits (length graph) txn → length graph ≡ length other
    → Agree graph other (footprint_of graph txn) → IsSameInside graph other txn
inside graph other (get by nodes) fits sizes agree = record {
  footprint = refl;
  answer = ap values (values_agree graph other (distinct_of nodes) nodes agree (λ n e. is_among-distinct_of n nodes ∙ e));
  agree = agree;
}
inside graph other (add by amounts) fits sizes agree =
    let within : (n : ℕ) → is_among n (map (λ (pair : ℕ × ℕ). pair.0) amounts) ≡ true
    → is_among n (distinct_of (map (λ (pair : ℕ × ℕ). pair.0) amounts)) ≡ true
    = λ n e. is_among-distinct_of n (map (λ (pair : ℕ × ℕ). pair.0) amounts) ∙ e in
    record {
      footprint = refl;
      answer = refl;
      agree = (alike_added graph other (footprint_of graph (add by amounts)) amounts
          (record { sizes = sizes; agree = agree }) within).agree;
    }
inside graph other (move from to amount) fits sizes agree =
    let both = moving_agrees graph other (footprint_of graph (move from to amount)) from to amount (record { sizes = sizes; agree = agree })
    (is_among-distinct_of from (from ∷ to ∷ []) ∙ is_among-head from (to ∷ []))
    (is_among-distinct_of to (from ∷ to ∷ []) ∙ is_among-tail from to (to ∷ []) (is_among-head to [])) in
    record { footprint = refl; answer = both.0; agree = both.1 }
inside graph other (link node port target) fits sizes agree =
    let here = among_with_target node (node ∷ []) target (is_among-head node []) in
    record {
      footprint = refl;
      answer = ap was (ap (λ (n : Node). get_or n.ports port None) (sym (agree node here)));
      agree = (alike_port graph other (with_target (node ∷ []) target) node port target
          (record { sizes = sizes; agree = agree }) here).agree;
    }
inside graph other (sum start p most) fits sizes agree =
    let vs = walk_of graph start p most in
    let same = same_walk graph other start p most fits.some agree in
    record {
      footprint = rw (← same.walk, ← same.stop) refl;
      answer = rw (← same.walk) (ap (summed (length vs))
          (sums_agree graph other (walked graph p vs) vs agree
          (λ n e. among_with_target n vs (stop_of graph p vs) e)));
      agree = agree;
    }
inside graph other (reverse start p most) fits sizes agree =
    let vs = walk_of graph start p most in
    let same = same_walk graph other start p most fits.some agree in
    let turns = alike_turned graph other (walked graph p vs) p (stop_of graph p vs) vs
    (record { sizes = sizes; agree = agree }) (λ n e. among_with_target n vs (stop_of graph p vs) e) in
    record {
      footprint = rw (← same.walk, ← same.stop) refl;
      answer = rw (← same.walk) refl;
      agree = rw (← same.walk, ← same.stop) turns.agree;
    }
inside graph other (peek node) fits sizes agree = record {
  footprint = refl;
  answer = ap values (values_agree graph other (node ∷ []) (node ∷ []) agree (λ n e. e));
  agree = agree;
}

-- ---- what a footprint names

among_target_cases : (n : ℕ) (ns : List ℕ) (target : Option ℕ) → is_among n (with_target ns target) ≡ true
    → (is_among n ns ≡ true) ⊎ (target ≡ Some n)
among_target_cases n ns None e = inl e
among_target_cases n ns (Some t) e = elim (or_cases (is_among n ns) (eqb t n) (sym (is_among-joined n ns t) ∙ e)) [
  | inl here ↦ inl here
  | inr same ↦ inr (ap Some (same_from_eqb t n same))
]

target_is_among : (n : ℕ) (ns : List ℕ) (target : Option ℕ) → target ≡ Some n → is_among n (with_target ns target) ≡ true
target_is_among n ns target e = rw e (target_among ns n)

concerns_target : (n : ℕ) (ns : List ℕ) (target : Option ℕ)
    → (is_among n (with_target ns target) ≡ true) ↔ ((is_among n ns ≡ true) ⊎ (target ≡ Some n))
concerns_target n ns target = (
  among_target_cases n ns target,
  λ e. elim e [ inl here ↦ among_with_target n ns target here | inr named ↦ target_is_among n ns target named ],
)

pub concerns : (graph : List Node) (txn : Transaction) (n : ℕ) → (is_among n (footprint_of graph txn) ≡ true) ↔ Concerns graph txn n
concerns graph (get by nodes) n =
    let same = is_among-distinct_of n nodes in (λ e. sym same ∙ e, λ e. same ∙ e)
concerns graph (add by amounts) n =
    let same = is_among-distinct_of n (listed (add by amounts)) in (λ e. sym same ∙ e, λ e. same ∙ e)
concerns graph (move from to amount) n =
    let same = is_among-distinct_of n (listed (move from to amount)) in (λ e. sym same ∙ e, λ e. same ∙ e)
concerns graph (link node port target) n = concerns_target n (node ∷ []) target
concerns graph (sum start p most) n = concerns_target n (walk_of graph start p most) (stop_of graph p (walk_of graph start p most))
concerns graph (reverse start p most) n = concerns_target n (walk_of graph start p most) (stop_of graph p (walk_of graph start p most))
concerns graph (peek node) n = (λ e. e, λ e. e)

different_all_joined : (ns ms : List ℕ) → AreDifferent ns → AreDifferent (fold with_number ns ms)
different_all_joined ns [] h = h
different_all_joined ns (m ∷ ms) h = different_all_joined (with_number ns m) ms (different_joined ns m h)

different_with_target : (ns : List ℕ) (target : Option ℕ) → AreDifferent ns → AreDifferent (with_target ns target)
different_with_target ns None h = h
different_with_target ns (Some t) h = different_joined ns t h

pub different_footprint : (graph : List Node) (txn : Transaction) → Fits (length graph) txn → AreDifferent (footprint_of graph txn)
different_footprint graph (get by nodes) fits = different_all_joined [] nodes different_none
different_footprint graph (add by amounts) fits = different_all_joined [] (listed (add by amounts)) different_none
different_footprint graph (move from to amount) fits = different_all_joined [] (listed (move from to amount)) different_none
different_footprint graph (link node port target) fits =
    different_with_target (node ∷ []) target (different_cons node [] refl different_none)
different_footprint graph (sum start p most) fits =
    different_with_target (walk_of graph start p most) (stop_of graph p (walk_of graph start p most))
    (gives_walk graph start p most fits.some).different
different_footprint graph (reverse start p most) fits =
    different_with_target (walk_of graph start p most) (stop_of graph p (walk_of graph start p most))
    (gives_walk graph start p most fits.some).different
different_footprint graph (peek node) fits = different_cons node [] refl different_none
