-- What a table tells of its seats as it is made, and as seats are cut off and taken in.
use Rattle.std.proofs.Common.{◌≡◌, ◌≢◌, ⊎_elim, inl, inr, ℕ, zero, suc, ◌+◌, ◌-◌, ◌<◌, true, false, List, [], ◌∷◌, ◌++◌, length, length-set, set, refl, sym, ap, ◌∙◌, subst, arith}
use mathlib.Core.Logic.{dite}
use mathlib.Core.Option.{some, some-injective}
use native.Mathlib.Decide.{ℕ_discrete}
use lib.ListN.{get_elem?}
use Rattle.atomic_table.proofs.Lists.{set_here, set_else, at_longer, at_last}
use Rattle.ww_queue.specs.declared.kind.Kind.{Kind}
use Rattle.ww_view.specs.View.{Knows}
use Rattle.ww_invariant.specs.declared.cells.Part.{Part}
use Rattle.ww_invariant.specs.declared.cells.Sight.{Sight}
use Rattle.ww_invariant.specs.declared.cells.Start.{Start}
use Rattle.ww_invariant.specs.Rule.{St, Ruled, first_part, first_parts, first_sight}
use Rattle.ww_invariant.specs.Steps.{nobody, sight_of, rest_of, first_seat, without_first, with_seat}
use Rattle.ww_invariant.proofs.Fits.{place_low}
use Rattle.ww_refines.specs.Moment.{IsPartOf}
use Rattle.ww_refines.specs.Tables.{IsToldOf}
use Rattle.ww_refines.specs.Runs.{NewTablesBegin}

-- ---- what is known by the table

pub known_by : {key : Start} (s : St) (r : Ruled key s) (t : ℕ) (p : Part) → IsToldOf s t p → IsPartOf r.core t p
known_by s r t p h = let sits = r.seats h.place h.view h.stands h.seated in record {
  who = h.who;
  knows = ⊎_elim (λ is. subst (λ (q : Part). Knows r.core q.core) is sits.part.knows)
      (λ idle. (sits.idle idle.0 p idle.1).0.knows) h.tells;
}

-- ---- a table made just now

-- the idle numbers are there one after another
parts_at : (kind : Kind) (locks places s n k t : ℕ) → k < n → s + k ≡ t →
    get_elem? (first_parts kind locks places s n) k ≡ some (first_part kind locks places t)
parts_at kind locks places s zero k t low is = absurd (omega arith)
parts_at kind locks places s (suc n) zero t low is = ap (λ (x : ℕ). some (first_part kind locks places x)) (omega arith)
parts_at kind locks places s (suc n) (suc k) t low is = parts_at kind locks places (s + 1) n k t (omega arith)
    (omega arith)

told_first : (key : Start) (s : St) → s.views ≡ first_sight key ∷ [] → (t : ℕ) → t < key.seats →
    IsToldOf s t (first_part key.kind key.locks key.places t)
told_first key s views t low = record {
  place = 0;
  view = first_sight key;
  stands = ap (λ (vs : List Sight). get_elem? vs 0) views;
  seated = refl;
  tells = dite (ℕ_discrete t (key.seats - 1))
      (λ is. inl (ap (first_part key.kind key.locks key.places) (sym is)))
      (λ isnt. inr (t, parts_at key.kind key.locks key.places 0 (key.seats - 1) t t (omega arith) (omega arith)));
  who = refl;
}

pub new_tables_begin : NewTablesBegin
new_tables_begin key s r views is = record {
  moment = record {
    table = s;
    ruled = r;
    part = first_part key.kind key.locks key.places;
    told = told_first key s views;
    known = λ t low. known_by s r t (first_part key.kind key.locks key.places t) (told_first key s views t low);
    rung = λ _ _. 0;
    risen = λ _. 0;
    token = λ _. false;
    asleep = λ _. false;
    heeds = λ _. false;
  };
  table = refl;
  first = record {
    core = is;
    parts = λ t low. refl;
    rung = refl;
    risen = refl;
    token = refl;
    asleep = refl;
    heeds = refl;
  };
}

-- where an element of the second of two lists is
behind : {A : Type 0} (xs ys : List A) (k : ℕ) → get_elem? (xs ++ ys) (length xs + k) ≡ get_elem? ys k
behind [] ys k = ap (get_elem? ys) (let z : 0 + k ≡ k = omega arith in z)
behind (x ∷ xs) ys k = ap (get_elem? (x ∷ (xs ++ ys))) (let z : suc (length xs) + k ≡ suc (length xs + k) =
    omega arith in z)
    ∙ behind xs ys k

-- ---- a seat that is cut off, and one that is taken in

module _ (s s' : St) (id : ℕ) (v : Sight) (here : get_elem? s.views id ≡ some v) (seated : v.seated ≡ true) where
  -- another view that stays tells what it told
  stays_told : (t : ℕ) (p : Part) (h : IsToldOf s t p) → get_elem? s'.views h.place ≡ some h.view → IsToldOf s' t p
  stays_told t p h stands = record {
    place = h.place;
    view = h.view;
    stands = stands;
    seated = h.seated;
    tells =
        h.tells;
    who = h.who;
  }

  by_view : (t : ℕ) (p : Part) (h : IsToldOf s t p) → h.place ≡ id → h.view ≡ v
  by_view t p h is = some-injective h.view v (sym h.stands ∙ ap (get_elem? s.views) is ∙ here)

  -- the first idle number is told of by a view of its own then, and the others one place before
  pub told_cut : (q : Part) (qs : List Part) → v.idle ≡ q ∷ qs →
      s'.views ≡ set s.views id (without_first v) ++ first_seat (length v.held) v.idle ∷ [] →
      (t : ℕ) (p : Part) → IsToldOf s t p → IsToldOf s' t p
  told_cut q qs idle views t p h = let low = place_low s.views id v here in
      let old = set s.views id (without_first v) in let new = first_seat (length v.held) v.idle in
      let mine : get_elem? s'.views id ≡ some (without_first v) =
      (ap (λ (vs : List Sight). get_elem? vs id) views
      ∙ at_longer old (new ∷ []) id (without_first v) (set_here s.views id (without_first v) low)) in
      dite (ℕ_discrete h.place id)
      (λ at. let same = by_view t p h at in ⊎_elim
      (λ is. record {
        place = id;
        view = without_first v;
        stands = mine;
        seated = seated;
        tells = inl (ap (λ (w : Sight). w.part) (sym same) ∙ is);
        who = h.who;
      })
      (λ k. idle_cut k.0 (ap (λ (ps : List Part). get_elem? ps k.0) (sym idle ∙ ap (λ (w : Sight). w.idle) (sym same))
      ∙ k.1) mine)
      h.tells)
      (λ other. stays_told t p h (ap (λ (vs : List Sight). get_elem? vs h.place) views
      ∙ at_longer old (new ∷ []) h.place h.view (set_else s.views id h.place (without_first v) other ∙ h.stands)))
    where
      idle_cut : (k : ℕ) → get_elem? (q ∷ qs) k ≡ some p → get_elem? s'.views id ≡ some (without_first v) →
          IsToldOf s' t p
      idle_cut zero at mine = record {
        place = length s.views;
        view = sight_of (length v.held) q;
        stands = ap (λ (vs : List Sight). get_elem? vs (length s.views)) views
            ∙ at_last (set s.views id (without_first v)) (first_seat (length v.held) v.idle) (length s.views)
            (length-set s.views id (without_first v))
            ∙ ap (λ (ps : List Part). some (first_seat (length v.held) ps)) idle;
        seated = refl;
        tells = inl (some-injective q p at);
        who = h.who;
      }
      idle_cut (suc k) at mine = record {
        place = id;
        view = without_first v;
        stands = mine;
        seated = seated;
        tells = inr (k, ap (λ (ps : List Part). get_elem? (rest_of ps) k) idle ∙ at);
        who = h.who;
      }

  -- the view that takes another in tells of its numbers too
  pub told_in : (other : ℕ) (w : Sight) → other ≢ id → get_elem? (set s.views id (with_seat v w)) other ≡ some w →
      s'.views ≡ set (set s.views id (with_seat v w)) other nobody → (t : ℕ) (p : Part) → IsToldOf s t p →
      IsToldOf s' t p
  told_in other w apart there views t p h = let low = place_low s.views id v here in
      let mid = set s.views id (with_seat v w) in
      let mine : get_elem? s'.views id ≡ some (with_seat v w) =
      (ap (λ (vs : List Sight). get_elem? vs id) views ∙ set_else mid other id nobody (λ is. apart (sym is))
      ∙ set_here s.views id (with_seat v w) low) in
      dite (ℕ_discrete h.place id)
      (λ at. let same = by_view t p h at in record {
        place = id;
        view = with_seat v w;
        stands = mine;
        seated = seated;
        tells = ⊎_elim (λ is. inl (ap (λ (x : Sight). x.part) (sym same) ∙ is))
            (λ k. inr (
              k.0,
              at_longer v.idle (w.part ∷ w.idle) k.0 p
                  (ap (λ (x : Sight). get_elem? x.idle k.0) (sym same) ∙ k.1),
            )) h.tells;
        who = h.who;
      })
      (λ isnt. dite (ℕ_discrete h.place other)
      (λ at. let same : h.view ≡ w = some-injective h.view w
      (sym h.stands ∙ ap (get_elem? s.views) at ∙ sym (set_else s.views id other (with_seat v w) apart)
      ∙ there) in record {
        place = id;
        view = with_seat v w;
        stands = mine;
        seated = seated;
        tells = ⊎_elim
            (λ is. inr (
              length v.idle + 0,
              behind v.idle (w.part ∷ w.idle) 0
                  ∙ ap some (ap (λ (x : Sight). x.part) (sym same) ∙ is),
            ))
            (λ k. inr (
              length v.idle + suc k.0,
              behind v.idle (w.part ∷ w.idle) (suc k.0)
                  ∙ ap (λ (x : Sight). get_elem? x.idle k.0) (sym same) ∙ k.1,
            )) h.tells;
        who = h.who;
      })
      (λ isnot. stays_told t p h (ap (λ (vs : List Sight). get_elem? vs h.place) views
      ∙ set_else mid other h.place nobody isnot ∙ set_else s.views id h.place (with_seat v w) isnt ∙ h.stands)))
