-- What a step of one seat leaves to the other seats, and to the numbers that lie idle.
use Rattle.std.proofs.Common.{◌≡◌, ◌≢◌, ℕ, zero, suc, ◌<◌, true, List, [], ◌∷◌, ◌++◌, length, set, refl, sym, ap, ◌∙◌, subst, ⊎_elim, inl, inr, arith, Some}
use mathlib.Core.Logic.{dite}
use mathlib.Core.Option.{some, some-injective}
use native.Mathlib.Decide.{ℕ_discrete}
use lib.ListN.{get_elem?}
use Rattle.atomic_table.proofs.Lists.{at_set, set_here, set_else, at_longer}
use Rattle.ww_model.specs.declared.state.Holder.TheVariants.{Taken}
use Rattle.ww_model.specs.declared.event.Event.{Event}
use Rattle.ww_model.specs.State.{State}
use Rattle.ww_model.specs.Event.{BasePossible, Possible, after}
use Rattle.ww_model.specs.Lawful.{IsLawful}
use Rattle.ww_plain.specs.declared.node.Node.{Node}
use Rattle.ww_plain.specs.Graph.{node_at}
use Rattle.ww_plain.specs.History.{Recorded, last_graph, part_of}
use Rattle.ww_model.specs.Event.{actor}
use Rattle.ww_model.proofs.Stays.{stamp_stays, owner_stays, guard_stays, entry_stays}
use Rattle.ww_view.proofs.Others.{others_know}
use Rattle.ww_invariant.specs.declared.cells.Counts.{Counts}
use Rattle.ww_invariant.specs.declared.cells.Part.{Part}
use Rattle.ww_invariant.specs.declared.cells.Sight.{Sight}
use Rattle.ww_invariant.specs.declared.cells.Start.{Start}
use Rattle.ww_invariant.specs.Rule.{St, first_graph, Shown, AtHome, PartFits, Sits, Speaks, IsThere, IsStranger, Ruled, Stays}

-- the seat `me` changes its view, and the parts of all others stay
pub seats_stay : (K : ℕ → Sight → Type 0) (vs : List Sight) (me : ℕ) (w : Sight) → (w.seated ≡ true → K me w)
    → ((j : ℕ) (d : Sight) → j ≢ me → get_elem? vs j ≡ some d → d.seated ≡ true → K j d)
    → (j : ℕ) (d : Sight) → get_elem? (set vs me w) j ≡ some d → d.seated ≡ true → K j d
seats_stay K vs me w mine others j d e =
    ⊎_elim (λ (t : (j ≡ me) × (w ≡ d)). subst (λ (x : ℕ × Sight). x.1.seated ≡ true → K x.0 x.1)
    (λ i. (sym t.0 i, t.1 i)) mine)
    (λ (t : (j ≢ me) × (get_elem? vs j ≡ some d)). others j d t.0 t.1) (at_set vs me j w d e)

pub place_low : {A : Type 0} (xs : List A) (k : ℕ) (x : A) → get_elem? xs k ≡ some x → k < length xs
place_low [] k x e = absurd cc
place_low (y ∷ ys) zero x e = omega arith
place_low (y ∷ ys) (suc k) x e = let h = place_low ys k x e in omega arith

-- another view changes
pub there_else : (vs : List Sight) (id : ℕ) (w : Sight) (j t : ℕ) → j ≢ id → IsThere vs j t → IsThere (set vs id w) j t
there_else vs id w j t isnt x = record { view = x.view; stands = set_else vs id j w isnt ∙ x.stands; seated = x.seated; speaks = x.speaks }

-- a view changes, and speaks of the number as before
pub there_set : {vs : List Sight} {v : Sight} (id : ℕ) (w : Sight) {j : ℕ} (t : ℕ) → get_elem? vs id ≡ some v → w.seated ≡ v.seated
    → (Speaks v t → Speaks w t) → IsThere vs j t → IsThere (set vs id w) j t
there_set {vs} id w {j} t here seated speaks x = dite (ℕ_discrete j id)
    (λ is. let same = some-injective _ x.view (sym here ∙ ap (get_elem? vs) (sym is) ∙ x.stands) in record {
      view = w;
      stands = ap (get_elem? (set vs id w)) is ∙ set_here vs id w (place_low vs id _ here);
      seated = seated ∙ ap (λ (y : Sight). y.seated) same ∙ x.seated;
      speaks = speaks (subst (λ (y : Sight). Speaks y t) (sym same) x.speaks);
    })
    (λ isnt. there_else vs id w j t isnt x)

-- a view changes that has this number and these idle ones before and after
pub there_kept : {vs : List Sight} {v : Sight} (id : ℕ) (w : Sight) {j : ℕ} (t : ℕ) → get_elem? vs id ≡ some v → w.seated ≡ v.seated
    → w.part.core.who ≡ v.part.core.who → w.idle ≡ v.idle → IsThere vs j t → IsThere (set vs id w) j t
there_kept id w t here seated who idle =
    there_set id w t here seated (⊎_elim (λ is. inl (who ∙ is))
    (λ more. inr (more.0, more.1, ap (λ l. get_elem? l more.0) idle ∙ more.2, more.3)))

pub there_longer : (vs ws : List Sight) (j t : ℕ) → IsThere vs j t → IsThere (vs ++ ws) j t
there_longer vs ws j t x = record { view = x.view; stands = at_longer vs ws j x.view x.stands; seated = x.seated; speaks = x.speaks }

-- an event of another leaves a number that no seat has as it is
pub strange_on : (c : State) (e : Event) (t : ℕ) → BasePossible c e → actor e ≢ t → IsStranger c t → IsStranger (after c e) t
strange_on c e t can other x = record {
  stamp = stamp_stays c e t other ∙ x.stamp;
  bare = λ n own. x.bare n ((owner_stays c e t can other n).1 own);
  outside = λ n inside. x.outside n ((guard_stays c e t can other n).1 inside);
  waits = λ n y has is. x.waits n y ((entry_stays c e t other n y is).1 has) is;
}

-- what becomes of counts, commits and nodes leaves all but the number s alone
pub record Spares (key : Start) (c : State) (log new : List Recorded) (counts counts' : ℕ → Counts) (s : ℕ) : Type 0 where
  pub counts_stay : (t : ℕ) → t ≢ s → counts' t ≡ counts t
  pub parts_stay : (t : ℕ) → t ≢ s → part_of t new ≡ part_of t log
  pub nodes_stay : (t n : ℕ) → t ≢ s → c.owner n ≡ Taken t
      → node_at (last_graph (first_graph key) new) n ≡ node_at (last_graph (first_graph key) log) n

module _ (key : Start) (c : State) (e : Event) (law : IsLawful c) (can : Possible c e) (log new : List Recorded)
    (at : ℕ → ℕ) (counts counts' : ℕ → Counts) (s : ℕ) (acts : actor e ≡ s)
    (spares : Spares key c log new counts counts' s) where
  pub part_on : (j : ℕ) (p : Part) → p.core.who ≢ s → PartFits key c log at counts j p → PartFits key (after c e) new at counts' j p
  part_on j p other f = record {
    place = f.place;
    number = f.number;
    knows = others_know c e p.core law can (λ z. other (sym z ∙ acts)) f.knows;
    counted = f.counted ∙ sym (spares.counts_stay p.core.who other);
    own = f.own ∙ sym (spares.parts_stay p.core.who other);
  }

  pub sits_on : (id j : ℕ) (v : Sight) → at s ≡ id → j ≢ id → Sits key c log at counts j v → Sits key (after c e) new at counts' j v
  sits_on id j v mine far f = let apart : (p : Part) → PartFits key c log at counts j p
      → p.core.who ≢ s = λ p g is. far (sym g.place ∙ ap at is ∙ mine) in record {
        part = part_on j v.part (apart v.part f.part) f.part;
        room = f.room;
        held = λ n own small. f.held n own small
            ∙ ap (λ (x : Node). some (Some x)) (sym
            (spares.nodes_stay v.part.core.who n (apart v.part f.part) (f.part.knows.owned.has n own)));
        idle = λ k p there. let i = f.idle k p there in (part_on j p (apart p i.0) i.0, i.1);
        apart = f.apart;
        differ = f.differ;
      }

-- another table with the same core: what the rule says of the core, of the commits and of the counts stays
pub stays_as : (key : Start) (s s' : St) (r : Ruled key s) (at : ℕ → ℕ) → Shown key.locks key.places r.all r.core s'.words
    → AtHome key.locks (last_graph (first_graph key) r.log) r.core.owner r.core.queue r.core.guard s'.homes
    → ((j : ℕ) (v : Sight) → get_elem? s'.views j ≡ some v → v.seated ≡ true
    → Sits key r.core r.log at r.counts j v) → ((t : ℕ) → t < key.seats → IsThere s'.views (at t) t)
    → Stays key s r s'
stays_as key s s' r at words homes seats there = record {
  is = refl;
  commits = refl;
  ruled = record {
    core = r.core;
    log = r.log;
    at = at;
    counts = r.counts;
    all = r.all;
    reached = r.reached;
    kind = r.kind;
    locks = r.locks;
    many = r.many;
    fits = r.fits;
    places = r.places;
    sizes = r.sizes;
    drawn = r.drawn;
    seats_there = r.seats_there;
    strangers = r.strangers;
    words = words;
    homes = homes;
    counted = r.counted;
    seats = seats;
    there = there;
  };
}
