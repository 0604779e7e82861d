-- The front of a walk, as a loop finds it.
use Rattle.std.proofs.Common.{◌≡◌, ℕ, ◌≤◌, List, [], ◌∷◌, ◌++◌, length, Option, Some, refl, sym, ap, subst, ◌∙◌, arith, length-append}
use Rattle.std.specs.List.{IsDistinct}
use Rattle.ww_plain.specs.declared.node.Node.{Node}
use Rattle.ww_plain.specs.Numbers.{AreDifferent}
use Rattle.ww_plain.specs.Graph.{port_of}
use Rattle.ww_plain.specs.Walk.{IsWalkEnd, GoesOnTo, FollowsPort, BeginsWith, IsWalk, stop_of, last_from}
use Rattle.ww_plain.proofs.Members.{different_push}

-- the nodes of a walk so far, and where the port of the last one leads
pub record IsFront (graph : List Node) (start p most : ℕ) (vs : List ℕ) (stop : Option ℕ) : Type 0 where
  pub begins : BeginsWith vs start
  pub different : AreDifferent vs
  pub follows : FollowsPort graph p vs
  pub short : length vs ≤ most
  pub leads : stop ≡ stop_of graph p vs

pub last_from-push : (v : ℕ) (ws : List ℕ) (n : ℕ) → last_from v (ws ++ n ∷ []) ≡ n
last_from-push v [] n = refl
last_from-push v (w ∷ ws) n = last_from-push w ws n

follows_push : (graph : List Node) (p : ℕ) (v : ℕ) (ws : List ℕ) (n : ℕ) → FollowsPort graph p (v ∷ ws)
    → Some n ≡ stop_of graph p (v ∷ ws) → FollowsPort graph p (v ∷ ws ++ n ∷ [])
follows_push graph p v [] n h leads = (sym leads, tt)
follows_push graph p v (w ∷ ws) n h leads = (h.0, follows_push graph p w ws n h.1 leads)

-- the walk goes on to n
pub front_more : (graph : List Node) (start p most : ℕ) (vs new : List ℕ) (stop : Option ℕ) (n : ℕ)
    → IsFront graph start p most vs stop → GoesOnTo vs most stop n
    → new ≡ vs ++ n ∷ [] → IsFront graph start p most new (port_of graph n p)
front_more graph start p most [] new stop n h goes pushed = absurd h.begins
front_more graph start p most (v ∷ ws) new stop n h goes pushed = rw pushed (record {
  begins = h.begins;
  different = different_push (v ∷ ws) n h.different goes.fresh;
  follows = follows_push graph p v ws n h.follows (sym goes.leads ∙ h.leads);
  short = simp length-append (omega (arith, goes.room));
  leads = ap (λ m. port_of graph m p) (sym (last_from-push v ws n));
})

pub front_of_one : (graph : List Node) (start p most : ℕ) (stop : Option ℕ) → 1 ≤ most
    → stop ≡ port_of graph start p → IsFront graph start p most (start ∷ []) stop
unfolding IsDistinct
front_of_one graph start p most stop some e = record { begins = refl; different = (tt, tt); follows = tt; short = some; leads = e }

-- the walk ends
pub front_ends : (graph : List Node) (start p most : ℕ) (vs : List ℕ) (stop : Option ℕ)
    → IsFront graph start p most vs stop → IsWalkEnd vs most stop → IsWalk graph start p most vs
front_ends graph start p most vs stop h ends = record {
  begins = h.begins;
  different = h.different;
  follows = h.follows;
  short = h.short;
  ends = subst (λ (s : Option ℕ). IsWalkEnd vs most s) h.leads ends;
}
