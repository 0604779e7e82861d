-- The front of a walk, in a graph that is seen node by node.
use Rattle.std.proofs.Common.{◌≡◌, ℕ, ◌<◌, ◌≤◌, true, eqb, inl, inr, List, [], ◌∷◌, ◌++◌, length, get_or, Option, Some, None, IfSome, sym, ap, subst, ◌∙◌}
use Rattle.std.specs.List.{AllByRecursion}
use Rattle.ww_plain.specs.declared.node.Node.{Node}
use Rattle.ww_plain.specs.Numbers.{is_among, with_number}
use Rattle.ww_plain.specs.Graph.{port_of, Agree}
use Rattle.ww_plain.specs.Footprint.{with_target}
use Rattle.ww_plain.specs.Walk.{IsWalkEnd, GoesOnTo, FollowsPort, stop_of, walk_of}
use Rattle.ww_plain.proofs.Members.{or_cases, same_from_eqb, is_among-head, is_among-tail, is_among-append, among_cons}
use Rattle.ww_plain.proofs.Fronts.{IsFront, front_of_one, front_more, front_ends}
use Rattle.ww_plain.proofs.Frames.{is_among-joined}
use Rattle.ww_plain.proofs.Walks.{only_walk}
use Rattle.ww_lock.specs.Holding.{Holding}
use Rattle.ww_users.specs.Ways.{IsSameContext, HoldsWalk}
use Rattle.ww_users.specs.Trips.{HasLocked}
use Rattle.ww_users.proofs.Contexts.{same_later}

-- the context a came from s along these nodes of a walk; all of them are held, and the port of the last leads to the stop
pub record IsAlong (s a : Holding) (start p most : ℕ) (vs : List ℕ) (stop : Option ℕ) : Type 0 where
  pub same : IsSameContext s a
  pub front : IsFront a.seen start p most vs stop
  pub held : (n : ℕ) → is_among n vs ≡ true → is_among n a.held ≡ true
  pub there : IfSome stop (λ n. n < length s.seen)

follows_agrees : (graph other : List Node) (p v : ℕ) (ws : List ℕ) → Agree graph other (v ∷ ws)
    → FollowsPort graph p (v ∷ ws) → FollowsPort other p (v ∷ ws) × (stop_of graph p (v ∷ ws) ≡ stop_of other p (v ∷ ws))
follows_agrees graph other p v [] agree follows = (tt, ap (λ (node : Node). get_or node.ports p None) (agree v (is_among-head v [])))
follows_agrees graph other p v (w ∷ ws) agree follows =
    let here : port_of graph v p ≡ port_of other v p =
    ap (λ (node : Node). get_or node.ports p None) (agree v (is_among-head v (w ∷ ws))) in
    let rest = follows_agrees graph other p w ws (λ n e. agree n (is_among-tail v n (w ∷ ws) e)) follows.1 in
    ((sym here ∙ follows.0, rest.0), rest.1)

front_agrees : (graph other : List Node) (start p most : ℕ) (vs : List ℕ) (stop : Option ℕ) → Agree graph other vs
    → IsFront graph start p most vs stop → IsFront other start p most vs stop
front_agrees graph other start p most [] stop agree h = absurd h.begins
front_agrees graph other start p most (v ∷ ws) stop agree h =
    let both = follows_agrees graph other p v ws agree h.follows in
    record { begins = h.begins; different = h.different; follows = both.0; short = h.short; leads = h.leads ∙ both.1 }

pub along_begins : {a : Holding} {start : ℕ} {s : Holding} {p most : ℕ} (vs : List ℕ) (stop : Option ℕ) → HasLocked s start a
    → 1 ≤ most → vs ≡ start ∷ [] → stop ≡ port_of a.seen start p → IfSome stop (λ n. n < length s.seen)
    → IsAlong s a start p most vs stop
along_begins {a} {start} vs stop locked some is leads there = rw is (record {
  same = locked.same;
  front = front_of_one _ _ _ _ stop some leads;
  held = among_cons (λ m. is_among m a.held ≡ true) start [] locked.holds (λ n e. absurd cc);
  there = there;
})

-- one lock more, of any node
pub along_locks : {s a b : Holding} {start p most n : ℕ} {vs : List ℕ} {stop : Option ℕ}
    → IsAlong s a start p most vs stop → HasLocked a n b → IsAlong s b start p most vs stop
along_locks h locked = record {
  same = same_later h.same locked.same;
  front = front_agrees _ _ _ _ _ _ _ (λ m e. locked.contents m (h.held m e)) h.front;
  held = λ m e. locked.keeps m (h.held m e);
  there = h.there;
}

-- the stop is held and new, and the walk goes on from it
pub along_goes_on : {a s : Holding} {start p most : ℕ} {new : List ℕ} {stop next : Option ℕ} (vs : List ℕ) (n : ℕ)
    → IsAlong s a start p most vs stop → GoesOnTo vs most stop n → is_among n a.held ≡ true → new ≡ vs ++ n ∷ []
    → next ≡ port_of a.seen n p → IfSome next (λ m. m < length s.seen) → IsAlong s a start p most new next
along_goes_on {a} vs n h goes holds pushed leads there = record {
  same = h.same;
  front = rw leads (front_more _ _ _ _ vs _ _ n h.front goes pushed);
  held = λ m e. elim (or_cases (is_among m vs) (is_among m (n ∷ []))
      (sym (is_among-append m vs (n ∷ [])) ∙ ap (is_among m) (sym pushed) ∙ e)) [
        | inl before ↦ h.held m before
        | inr last ↦ among_cons (λ k. is_among k a.held ≡ true) n [] holds (λ k none. absurd cc) m last
      ];
  there = there;
}

pub all_among : (P : ℕ → Type 0) (ns : List ℕ) → ((n : ℕ) → is_among n ns ≡ true → P n) → AllByRecursion P ns
all_among P [] each = tt
all_among P (n ∷ ns) each = (each n (is_among-head n ns), all_among P ns (λ m e. each m (is_among-tail n m ns e)))

-- the stop, too, where there is one
stop_held : (held vs : List ℕ) (stop : Option ℕ) → ((n : ℕ) → is_among n vs ≡ true → is_among n held ≡ true)
    → IfSome stop (λ n. is_among n held ≡ true) → AllByRecursion (λ n. is_among n held ≡ true) (with_target vs stop)
stop_held held vs None each last = all_among _ vs each
stop_held held vs (Some t) each last =
    all_among _ (with_number vs t) (λ n e. elim (or_cases (is_among n vs) (eqb t n) (sym (is_among-joined n vs t) ∙ e)) [
      | inl before ↦ each n before
      | inr same ↦ subst (λ (m : ℕ). is_among m held ≡ true) (same_from_eqb t n same) last
    ])

pub along_ends : {a : Holding} {start p most : ℕ} {s : Holding} (vs : List ℕ) (stop : Option ℕ)
    → IsAlong s a start p most vs stop → IsWalkEnd vs most stop → IfSome stop (λ n. is_among n a.held ≡ true)
    → IsSameContext s a × HoldsWalk start p most a
along_ends {a} {start} {p} {most} vs stop h ends last =
    let walk : vs ≡ walk_of a.seen start p most = only_walk a.seen start p most vs (front_ends a.seen start p most vs stop h.front ends) in
    (h.same, rw (← walk, ← h.front.leads) (stop_held a.held vs stop h.held last))
