-- A schedule has one text: what a replay finds is one, part by part.
use Rattle.std.proofs.Common.{◌≡◌, ◌⊎◌, inl, inr, ℕ, zero, suc, ◌<◌, List, [], ◌∷◌, take, Option, Some, None, refl, sym, ap, ◌∙◌, subst, le_antisymm, arith}
use Rattle.std.specs.Prelude.{slice_get}
use Rattle.std.proofs.lemmas.List.{take-take}
use mathlib.Core.Logic.{dite}
use native.Mathlib.Decide.{dec_lt}
use Rattle.ww_model.specs.declared.state.Holder.{Holder}
use Rattle.ww_model.specs.declared.state.Holder.TheVariants.{Taken, Handed}
use Rattle.ww_model.specs.declared.event.Event.{Event}
use Rattle.ww_model.specs.State.{State}
use Rattle.ww_model.specs.Event.{Possible, after}
use Rattle.ww_model.specs.Run.{state_after, IsRun}
use Rattle.ww_model.specs.Replay.{IsFirstImpossible}
use Rattle.ww_model.specs.Lawful.{IsBase}
use Rattle.ww_model.specs.Waits.{WaitsFor, Leads, IsNoneOf, IsRing, IsLeastRing, CondemnedOf}
use Rattle.ww_model.proofs.Kept.{runs_are_lawful}
use Rattle.ww_schedule.specs.Schedules.{Timetable}
use Rattle.ww_schedule.specs.Replay.{StopsAt, front, RingOf, seats_of, Replay, first_state, last_state, IsReplay, replay_lines, HasOneText}

-- ---- where it stops

front_runs : (c : State) (es : List Event) (stop : Option ℕ) → StopsAt c es stop → IsRun c (front stop es)
front_runs c es None stops = stops
front_runs c es (Some index) stops = stops.before

-- an event of a run was possible at its place
possible_there : (c : State) (es : List Event) (i : ℕ) (e : Event) → IsRun c es → slice_get es i ≡ Some e
    → Possible (state_after c (take i es)) e
possible_there c [] i e run there = absurd (cc)
possible_there c (x ∷ es) zero e run there = let is : x ≡ e = cc in subst (Possible c) is run.0
possible_there c (x ∷ es) (suc i) e run there = possible_there (after c x) es i e run.1 there

same_in_front : (es : List Event) (i j : ℕ) → i < j → slice_get (take j es) i ≡ slice_get es i
same_in_front es i zero less = absurd (omega arith)
same_in_front [] i (suc j) less = refl
same_in_front (e ∷ es) zero (suc j) less = refl
same_in_front (e ∷ es) (suc i) (suc j) less = same_in_front es i j (omega arith)

-- of two events, the earlier was possible if the later is the first that wasn't
not_earlier : (c : State) (es : List Event) (i j : ℕ) → i < j → IsFirstImpossible c es i → IsFirstImpossible c es j → ⊥
not_earlier c es i j less p q = p.impossible (subst (λ before. Possible (state_after c before) p.event) (take-take i j es (omega arith))
    (possible_there c (take j es) i p.event q.before (same_in_front es i j less ∙ p.there)))

not_in_run : (c : State) (es : List Event) (i : ℕ) → IsRun c es → IsFirstImpossible c es i → ⊥
not_in_run c es i run p = p.impossible (possible_there c es i p.event run p.there)

one_stop : (c : State) (es : List Event) (a b : Option ℕ) → StopsAt c es a → StopsAt c es b → a ≡ b
one_stop c es None None p q = refl
one_stop c es None (Some j) p q = absurd (not_in_run c es j p q)
one_stop c es (Some i) None p q = absurd (not_in_run c es i q p)
one_stop c es (Some i) (Some j) p q = dite (dec_lt i j) (λ less. absurd (not_earlier c es i j less p q))
    (λ not_less. dite (dec_lt j i) (λ more. absurd (not_earlier c es j i more q p)) (λ not_more. ap Some (omega arith)))

-- ---- the ring

one_owner : (o : Holder) (b d : ℕ) → (o ≡ Taken b) ⊎ (o ≡ Handed b) → (o ≡ Taken d) ⊎ (o ≡ Handed d) → b ≡ d
one_owner o b d (inl p) (inl q) = cc
one_owner o b d (inl p) (inr q) = absurd (cc)
one_owner o b d (inr p) (inl q) = absurd (cc)
one_owner o b d (inr p) (inr q) = cc

module _ (c : State) (base : IsBase c) where
  -- nobody waits for two
  one_awaited : (a b d : ℕ) → WaitsFor c a b → WaitsFor c a d → b ≡ d
  one_awaited a b d v w =
      let p = v.1.stands in let q = w.1.stands in
      let same = base.queues.one_queue v.0 w.0 p.0 q.0 p.1 q.1 (p.2 ∙ sym q.2) in
      one_owner (c.owner w.0) b d (subst (λ n. (c.owner n ≡ Taken b) ⊎ (c.owner n ≡ Handed b)) same v.1.owner) w.1.owner

  -- two chains from one seat to the same, which neither comes by before, are one
  one_chain : (a : ℕ) (bs ds : List ℕ) (z : ℕ) → Leads c a bs z → Leads c a ds z → IsNoneOf z bs → IsNoneOf z ds → bs ≡ ds
  one_chain a [] [] z p q new new' = refl
  one_chain a [] (d ∷ ds) z p q new new' = absurd (new'.0 (one_awaited a z d p q.0))
  one_chain a (b ∷ bs) [] z p q new new' = absurd (new.0 (one_awaited a z b q p.0))
  one_chain a (b ∷ bs) (d ∷ ds) z p q new new' =
      let same = one_awaited a b d p.0 q.0 in
      ap (λ x. x ∷ bs) same ∙ ap (λ rest. d ∷ rest) (one_chain d bs ds z (subst (λ x. Leads c x bs z) same p.1) q.1 new.1 new'.1)

  -- rings that begin with the same seat are one
  one_ring_from : (a : ℕ) (bs ds : List ℕ) → IsRing c (a ∷ bs) → IsRing c (a ∷ ds) → a ∷ bs ≡ a ∷ ds
  one_ring_from a bs ds p q = ap (λ rest. a ∷ rest) (one_chain a bs ds a p.cycle q.cycle p.different.0 q.different.0)

  one_least_ring : (r s : List ℕ) → IsLeastRing c r → IsLeastRing c s → r ≡ s
  one_least_ring r s p q =
      let first = subst (IsRing c) p.parts p.ring_is in
      let second = subst (IsRing c) q.parts q.ring_is in
      let same = le_antisymm (p.least (q.first ∷ q.rest) q.first second (inl refl)) (q.least (p.first ∷ p.rest) p.first first (inl refl)) in
      p.parts ∙ ap (λ a. a ∷ p.rest) same ∙ one_ring_from q.first p.rest q.rest
      (subst (λ a. IsRing c (a ∷ p.rest)) same first) second ∙ sym q.parts

  one_ring : (a b : Option (List ℕ)) → RingOf c a → RingOf c b → a ≡ b
  one_ring None None p q = refl
  one_ring None (Some s) p q = absurd (p s q.ring_is)
  one_ring (Some r) None p q = absurd (q r p.ring_is)
  one_ring (Some r) (Some s) p q = ap Some (one_least_ring r s p q)

-- ---- the condemned seat

one_condemned : (c : State) (seats : List ℕ) (a b : Option ℕ) → CondemnedOf c seats a → CondemnedOf c seats b → a ≡ b
one_condemned c seats None None p q = refl
one_condemned c seats None (Some b) p q = absurd (p b (q.member, q.condemned))
one_condemned c seats (Some a) None p q = absurd (q a (p.member, p.condemned))
one_condemned c seats (Some a) (Some b) p q = ap Some (le_antisymm (p.least b q.member q.condemned) (q.least a p.member p.condemned))

-- ---- together

-- In a lawful state nobody waits for two, so that a seat begins one ring at most.
last_is_base : (t : Timetable) (r : Replay) → IsReplay t r → IsBase (last_state t r)
last_is_base t r is = (runs_are_lawful t.kind t.locks t.seats (front r.stop t.events)
    (front_runs (first_state t) t.events r.stop is.stop)).base

one_replay : (t : Timetable) (r s : Replay) → IsReplay t r → IsReplay t s → r ≡ s
one_replay t r s p q =
    let stop = one_stop (first_state t) t.events r.stop s.stop p.stop q.stop in
    let last = ap (λ i. state_after (first_state t) (front i t.events)) stop in
    let ring = one_ring (last_state t s) (last_is_base t s q) r.ring s.ring (subst (λ c. RingOf c r.ring) last p.ring) q.ring in
    let condemned = one_condemned (last_state t s) (seats_of s.ring) r.condemned s.condemned
    (subst (λ x. CondemnedOf (last_state t s) (seats_of x) r.condemned) ring
    (subst (λ c. CondemnedOf c (seats_of r.ring) r.condemned) last p.condemned)) q.condemned in
    ap (λ i. record r { stop = i }) stop ∙ ap (λ x. record s { ring = x; condemned = r.condemned }) ring
    ∙ ap (λ x. record s { condemned = x }) condemned

pub one_text : HasOneText
one_text t a b told again = told.2 ∙ ap (replay_lines t) (one_replay t told.0 again.0 told.1 again.1) ∙ sym again.2
