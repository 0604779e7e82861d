-- The walk is the one list with the properties of a walk.
use Rattle.std.proofs.Common.{◌≡◌, ℕ, zero, suc, ◌≤◌, true, false, ◌⊎◌, inl, inr, eqb, List, [], ◌∷◌, length, Option, Some, None, IfSome, refl, sym, ap, ◌∙◌, arith}
use Rattle.std.specs.List.{AllByRecursion, IsDistinct}
use Rattle.ww_plain.specs.declared.node.Node.{Node}
use Rattle.ww_plain.specs.Numbers.{is_among, AreDifferent}
use Rattle.ww_plain.specs.Graph.{port_of}
use Rattle.ww_plain.specs.Walk.{FollowsPort, BeginsWith, IsWalk, stop_of, onward, walk_past, walk_of}
use Rattle.ww_plain.proofs.Members.{or_cases, or_false, true_or_false, is_among-tail, different_cons, different_none}

-- A walk's nodes from v on, at most so many, behind those of `past`.
pub record IsWalkPast (graph : List Node) (p most : ℕ) (past : List ℕ) (v : ℕ) (vs : List ℕ) : Type 0 where
  pub begins : BeginsWith vs v
  pub different : AreDifferent vs
  pub follows : FollowsPort graph p vs
  pub short : length vs ≤ most
  pub apart : AllByRecursion (λ n. is_among n past ≡ false) vs
  pub ends : (most ≤ length vs) ⊎ IfSome (stop_of graph p vs) (λ stop. (is_among stop vs ≡ true) ⊎ (is_among stop past ≡ true))

-- how the walk goes on from a node whose port leads to `target`
onward_none : (target : Option ℕ) (past : List ℕ) (go : ℕ → List ℕ) → IfSome target (λ n. is_among n past ≡ true)
    → onward target past go ≡ []
onward_none None past go h = refl
onward_none (Some n) past go h = rw h refl

pub onward_new : (target : Option ℕ) (n : ℕ) (past : List ℕ) (go : ℕ → List ℕ) → target ≡ Some n
    → is_among n past ≡ false → onward target past go ≡ go n
onward_new target n past go e h = rw (e, h) refl

onward_empty : (target : Option ℕ) (past : List ℕ) (go : ℕ → List ℕ) → ((n : ℕ) → go n ≡ []) → onward target past go ≡ []
onward_empty None past go h = refl
onward_empty (Some n) past go h = elim (true_or_false (is_among n past)) [ inl e ↦ rw e refl | inr e ↦ rw e (h n) ]

among_one : (n v : ℕ) (past : List ℕ) → is_among n (v ∷ []) ≡ true → is_among n (v ∷ past) ≡ true
among_one n v past e = elim (or_cases (eqb v n) false e) [ inl here ↦ rw here refl | inr there ↦ absurd cc ]

stops_at : (target : Option ℕ) (v : ℕ) (past : List ℕ)
    → IfSome target (λ n. (is_among n (v ∷ []) ≡ true) ⊎ (is_among n past ≡ true))
    → IfSome target (λ n. is_among n (v ∷ past) ≡ true)
stops_at None v past h = tt
stops_at (Some n) v past h = elim h [ inl here ↦ among_one n v past here | inr there ↦ is_among-tail v n past there ]

pub unfolds : (graph : List Node) (p most : ℕ) (past : List ℕ) (v : ℕ)
    → walk_past graph p (suc most) past v
    ≡ v ∷ onward (port_of graph v p) (v ∷ past) (λ n. walk_past graph p most (v ∷ past) n)
unfolding walk_past
unfolds graph p most past v = refl

pub none_left : (graph : List Node) (p : ℕ) (past : List ℕ) (v : ℕ) → walk_past graph p 0 past v ≡ []
unfolding walk_past
none_left graph p past v = refl

-- a walk that ends with its first node
ends_here : (graph : List Node) (p most : ℕ) (past : List ℕ) (v : ℕ) → (suc most ≤ 1)
    ⊎ IfSome (port_of graph v p) (λ n. (is_among n (v ∷ []) ≡ true) ⊎ (is_among n past ≡ true))
    → onward (port_of graph v p) (v ∷ past) (λ n. walk_past graph p most (v ∷ past) n) ≡ []
ends_here graph p most past v h = elim h [
  | inl last ↦ let zero_left : most ≡ 0 = omega arith in
      rw zero_left (onward_empty (port_of graph v p) (v ∷ past) (λ n. walk_past graph p 0 (v ∷ past) n)
      (λ n. none_left graph p (v ∷ past) n))
  | inr stops ↦ onward_none (port_of graph v p) (v ∷ past) (λ n. walk_past graph p most (v ∷ past) n)
      (stops_at (port_of graph v p) v past stops)
]

-- no number of ws is v, nor one of past
apart_more : (v : ℕ) (past ws : List ℕ) → AllByRecursion (λ n. eqb v n ≡ false) ws
    → AllByRecursion (λ n. is_among n past ≡ false) ws → AllByRecursion (λ n. is_among n (v ∷ past) ≡ false) ws
apart_more v past [] others apart = tt
apart_more v past (w ∷ ws) others apart = (rw (others.0, apart.0) refl, apart_more v past ws others.1 apart.1)

-- what is among u and ws, or past, is among ws, or u and past
passed_on : (stop : Option ℕ) (u w : ℕ) (ws past : List ℕ) → IfSome stop (λ n. (is_among n (u ∷ w ∷ ws) ≡ true) ⊎ (is_among n past ≡ true))
    → IfSome stop (λ n. (is_among n (w ∷ ws) ≡ true) ⊎ (is_among n (u ∷ past) ≡ true))
passed_on None u w ws past h = tt
passed_on (Some n) u w ws past h = elim h [
  | inl here ↦ elim (or_cases (eqb u n) (is_among n (w ∷ ws)) here) [ inl first ↦ inr (rw first refl) | inr later ↦ inl later ]
  | inr there ↦ inr (is_among-tail u n past there)
]

tail_past : (graph : List Node) (p most : ℕ) (past : List ℕ) (u w : ℕ) (ws : List ℕ)
    → IsWalkPast graph p (suc most) past u (u ∷ w ∷ ws) → IsWalkPast graph p most (u ∷ past) w (w ∷ ws)
unfolding IsDistinct
tail_past graph p most past u w ws h = record {
  begins = refl;
  different = h.different.1;
  follows = h.follows.1;
  short = omega (arith, h.short);
  apart = apart_more u past (w ∷ ws) h.different.0 h.apart.1;
  ends = elim h.ends [
    | inl full ↦ inl (omega (arith, full))
    | inr stops ↦ inr (passed_on (stop_of graph p (w ∷ ws)) u w ws past stops)
  ];
}

begun : (graph : List Node) (p most : ℕ) (past : List ℕ) (v u : ℕ) (us : List ℕ)
    → IsWalkPast graph p most past v (u ∷ us) → IsWalkPast graph p most past u (u ∷ us)
begun graph p most past v u us h = record {
  begins = refl;
  different = h.different;
  follows = h.follows;
  short = h.short;
  apart = h.apart;
  ends = h.ends;
}

-- a walk behind those of past is the one that the function gives
pub only_past : (graph : List Node) (p most : ℕ) (past : List ℕ) (v : ℕ) (vs : List ℕ)
    → IsWalkPast graph p most past v vs → vs ≡ walk_past graph p most past v
only_past graph p most past v [] h = absurd h.begins
only_past graph p zero past v (u ∷ us) h = absurd (omega (arith, h.short))
only_past graph p (suc most) past v (u ∷ []) h =
    rw (← h.begins, unfolds graph p most past u) (ap (λ us. u ∷ us) (sym (ends_here graph p most past u h.ends)))
only_past graph p (suc most) past v (u ∷ w ∷ ws) h =
    let later = tail_past graph p most past u w ws (begun graph p (suc most) past v u (w ∷ ws) h) in
    let same = only_past graph p most (u ∷ past) w (w ∷ ws) later in
    let goes = onward_new (port_of graph u p) w (u ∷ past) (λ n. walk_past graph p most (u ∷ past) n) h.follows.0 later.apart.0 in
    rw (← h.begins, unfolds graph p most past u) (ap (λ us. u ∷ us) (same ∙ sym goes))

-- ---- the function gives a walk

nothing_among : (ns : List ℕ) → AllByRecursion (λ n. is_among n [] ≡ false) ns
nothing_among [] = tt
nothing_among (n ∷ ns) = (refl, nothing_among ns)

pub walk_is_past : (graph : List Node) (start p most : ℕ) (vs : List ℕ) → IsWalk graph start p most vs → IsWalkPast graph p most [] start vs
walk_is_past graph start p most vs h = record {
  begins = h.begins;
  different = h.different;
  follows = h.follows;
  short = h.short;
  apart = nothing_among vs;
  ends = elim h.ends [ inl full ↦ inl full | inr stops ↦ inr (weaker (stop_of graph p vs) stops) ];
}
  where
    weaker : (stop : Option ℕ) → IfSome stop (λ n. is_among n vs ≡ true)
        → IfSome stop (λ n. (is_among n vs ≡ true) ⊎ (is_among n [] ≡ true))
    weaker None stops = tt
    weaker (Some n) stops = inl stops

pub past_is_walk : (graph : List Node) (start p most : ℕ) (vs : List ℕ) → IsWalkPast graph p most [] start vs → IsWalk graph start p most vs
past_is_walk graph start p most vs h = record {
  begins = h.begins;
  different = h.different;
  follows = h.follows;
  short = h.short;
  ends = elim h.ends [ inl full ↦ inl full | inr stops ↦ inr (stronger (stop_of graph p vs) stops) ];
}
  where
    stronger : (stop : Option ℕ) → IfSome stop (λ n. (is_among n vs ≡ true) ⊎ (is_among n [] ≡ true))
        → IfSome stop (λ n. is_among n vs ≡ true)
    stronger None stops = tt
    stronger (Some n) stops = elim stops [ inl here ↦ here | inr there ↦ absurd cc ]

-- one node more in front
longer : (graph : List Node) (p most : ℕ) (past : List ℕ) (u w : ℕ) (ws : List ℕ) → is_among u past ≡ false
    → port_of graph u p ≡ Some w → IsWalkPast graph p most (u ∷ past) w (w ∷ ws)
    → IsWalkPast graph p (suc most) past u (u ∷ w ∷ ws)
unfolding IsDistinct
longer graph p most past u w ws new next h = record {
  begins = refl;
  different = (others ws' h.apart, h.different);
  follows = (next, h.follows);
  short = omega (arith, h.short);
  apart = (new, apart_less ws' h.apart);
  ends = elim h.ends [
    | inl full ↦ inl (omega (arith, full))
    | inr stops ↦ inr (passed_back (stop_of graph p ws') stops)
  ];
}
  where
    ws' : List ℕ
    ws' = w ∷ ws

    others : (ns : List ℕ) → AllByRecursion (λ n. is_among n (u ∷ past) ≡ false) ns → AllByRecursion (λ n. eqb u n ≡ false) ns
    others [] h = tt
    others (n ∷ ns) h = ((or_false (eqb u n) (is_among n past) h.0).0, others ns h.1)

    apart_less : (ns : List ℕ) → AllByRecursion (λ n. is_among n (u ∷ past) ≡ false) ns → AllByRecursion (λ n. is_among n past ≡ false) ns
    apart_less [] h = tt
    apart_less (n ∷ ns) h = ((or_false (eqb u n) (is_among n past) h.0).1, apart_less ns h.1)

    passed_back : (stop : Option ℕ) → IfSome stop
        (λ n. (is_among n (w ∷ ws) ≡ true) ⊎ (is_among n (u ∷ past) ≡ true))
        → IfSome stop (λ n. (is_among n (u ∷ w ∷ ws) ≡ true) ⊎ (is_among n past ≡ true))
    passed_back None stops = tt
    passed_back (Some n) stops = elim stops [
      | inl here ↦ inl (is_among-tail u n (w ∷ ws) here)
      | inr there ↦ elim (or_cases (eqb u n) (is_among n past) there) [ inl first ↦ inl (rw first refl) | inr earlier ↦ inr earlier ]
    ]

-- how a walk may go on behind those of past: not at all, or as a walk
Onward : List Node → ℕ → ℕ → List ℕ → ℕ → List ℕ → Type 0
Onward graph p most past n vs = ((vs ≡ []) × (most ≡ 0)) ⊎ ((ws : List ℕ) × (vs ≡ n ∷ ws) × IsWalkPast graph p most past n (n ∷ ws))

alone : (graph : List Node) (p most : ℕ) (past : List ℕ) (u : ℕ) → is_among u past ≡ false → (most ≡ 0)
    ⊎ IfSome (port_of graph u p) (λ n. is_among n (u ∷ past) ≡ true) → IsWalkPast graph p (suc most) past u (u ∷ [])
alone graph p most past u new h = record {
  begins = refl;
  different = different_cons u [] refl different_none;
  follows = tt;
  short = omega arith;
  apart = (new, tt);
  ends = elim h [ inl none_more ↦ inl (omega (arith, none_more)) | inr stops ↦ inr (parted (port_of graph u p) stops) ];
}
  where
    parted : (stop : Option ℕ) → IfSome stop (λ n. is_among n (u ∷ past) ≡ true)
        → IfSome stop (λ n. (is_among n (u ∷ []) ≡ true) ⊎ (is_among n past ≡ true))
    parted None stops = tt
    parted (Some n) stops = elim (or_cases (eqb u n) (is_among n past) stops) [ inl here ↦ inl (rw here refl) | inr there ↦ inr there ]

onward_is_walk : (graph : List Node) (p most : ℕ) (past : List ℕ) (u : ℕ) (go : ℕ → List ℕ) (target : Option ℕ)
    → port_of graph u p ≡ target → is_among u past ≡ false
    → ((n : ℕ) → is_among n (u ∷ past) ≡ false → Onward graph p most (u ∷ past) n (go n))
    → IsWalkPast graph p (suc most) past u (u ∷ onward target (u ∷ past) go)
unfolding Onward
onward_is_walk graph p most past u go None e new h = alone graph p most past u new (inr (rw e tt))
onward_is_walk graph p most past u go (Some n) e new h = elim (true_or_false (is_among n (u ∷ past))) [
  | inl seen ↦ rw seen (alone graph p most past u new (inr (rw e seen)))
  | inr unseen ↦ rw unseen (elim (h n unseen) [
    | inl none ↦ rw none.0 (alone graph p most past u new (inl none.1))
    | inr some ↦ rw some.1 (longer graph p most past u n some.0 new e some.2)
  ])
]

gives_past : (graph : List Node) (p most : ℕ) (past : List ℕ) (u : ℕ) → is_among u past ≡ false
    → IsWalkPast graph p (suc most) past u (walk_past graph p (suc most) past u)
unfolding Onward
gives_past graph p zero past u new =
    rw (unfolds graph p zero past u) (onward_is_walk graph p zero past u (λ n. walk_past graph p zero (u ∷ past) n)
    (port_of graph u p) refl new (λ n unseen. inl (none_left graph p (u ∷ past) n, refl)))
gives_past graph p (suc most) past u new =
    rw (unfolds graph p (suc most) past u)
    (onward_is_walk graph p (suc most) past u (λ n. walk_past graph p (suc most) (u ∷ past) n)
    (port_of graph u p) refl new
    (λ n unseen. inr (
      onward (port_of graph n p) (n ∷ u ∷ past) (λ m. walk_past graph p most (n ∷ u ∷ past) m),
      unfolds graph p most (u ∷ past) n,
      rw (← unfolds graph p most (u ∷ past) n)
          (gives_past graph p most (u ∷ past) n unseen),
    )))

pub gives_walk : (graph : List Node) (start p most : ℕ) → 1 ≤ most → IsWalk graph start p most (walk_of graph start p most)
unfolding walk_of
gives_walk graph start p zero some = absurd (omega arith)
gives_walk graph start p (suc most) some =
    past_is_walk graph start p (suc most) (walk_past graph p (suc most) [] start)
    (gives_past graph p most [] start refl)

pub only_walk : (graph : List Node) (start p most : ℕ) (vs : List ℕ) → IsWalk graph start p most vs → vs ≡ walk_of graph start p most
unfolding walk_of
only_walk graph start p most vs h = only_past graph p most [] start vs (walk_is_past graph start p most vs h)
