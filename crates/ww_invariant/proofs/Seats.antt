-- The table as it is made, and seats that are cut off or joined.
use Rattle.std.proofs.Common.{◌≡◌, ◌≢◌, ◌⊎◌, ℕ, zero, suc, ◌+◌, ◌-◌, ◌*◌, ◌<◌, ◌≤◌, true, true≢false, List, [], ◌∷◌, ◌++◌, length, replicate, get_or, set, sym, refl, ap, ◌∙◌, subst, ⊎_elim, inl, inr, arith, Option, None, length-set}
use mathlib.Core.Option.{some, some-injective}
use mathlib.Core.Logic.{dite}
use native.Mathlib.Decide.{ℕ_discrete}
use lib.ListN.{get_elem?, length-replicate, length-map}
use Rattle.atomic_table.specs.Table.{Splits, Joins, opening}
use Rattle.atomic_table.proofs.Lists.{at_set, at_map, at_longer, at_last, set_here}
use Rattle.ww_queue.specs.declared.kind.Kind.{Kind}
use Rattle.ww_model.specs.State.{State, put, pick, start}
use Rattle.ww_model.specs.Run.{at_start}
use Rattle.ww_model.proofs.Puts.{put_here, put_else}
use Rattle.ww_model.proofs.Counts.{one_of_nobody}
use Rattle.ww_plain.specs.Graph.{node_at}
use Rattle.ww_plain.specs.History.{Recorded}
use Rattle.ww_view.specs.View.{IsBare}
use Rattle.ww_view.proofs.Starts.{knows_start, none_at}
use Rattle.ww_invariant.specs.declared.cells.Cell.{Cell}
use Rattle.ww_invariant.specs.declared.cells.Cell.TheVariants.{Content, Line}
use Rattle.ww_invariant.specs.declared.cells.Counts.{Counts}
use Rattle.ww_invariant.specs.declared.cells.Part.{Part}
use Rattle.ww_invariant.specs.declared.cells.Sight.{Sight}
use Rattle.ww_invariant.specs.declared.cells.Start.{Start}
use Rattle.ww_invariant.specs.Layout.{lock_at}
use Rattle.ww_invariant.specs.Rule.{St, first_graph, PartFits, Sits, Speaks, IsThere, Ruled, Stays, IsSize, no_counts, first_part, first_parts, first_sight, AreNodes}
use Rattle.ww_invariant.specs.Steps.{nobody, sight_of, rest_of, first_seat, without_first, with_seat}
use Rattle.ww_invariant.proofs.Totals.{total_zero}
use Rattle.ww_invariant.proofs.Fits.{stays_as, seats_stay, place_low, there_set, there_else, there_longer}

-- where an element of a longer list is
pub at_end : {A : Type 0} (l : List A) (a b : A) (j : ℕ) → get_elem? (l ++ a ∷ []) j ≡ some b
    → (get_elem? l j ≡ some b) ⊎ ((j ≡ length l) × (a ≡ b))
at_end [] a b zero e = inr (refl, some-injective a b e)
at_end [] a b (suc j) e = absurd (cc)
at_end (x ∷ xs) a b zero e = inl e
at_end (x ∷ xs) a b (suc j) e = ⊎_elim (λ z. inl z) (λ z. inr (ap (λ (n : ℕ). suc n) z.0, z.1)) (at_end xs a b j e)

at_both : {A : Type 0} (l m : List A) (b : A) (j : ℕ) → get_elem? (l ++ m) j ≡ some b → (get_elem? l j ≡ some b)
    ⊎ ((i : ℕ) × (j ≡ length l + i) × (get_elem? m i ≡ some b))
at_both [] m b j e = inr (j, (omega arith), e)
at_both (x ∷ xs) m b zero e = inl e
at_both (x ∷ xs) m b (suc j) e = ⊎_elim (λ z. inl z) (λ z. inr (z.0, (let h = z.1 in omega arith), z.2)) (at_both xs m b j e)

-- the seats that stood at `from` stand at `to`
aimed : ℕ → ℕ → (ℕ → ℕ) → ℕ → ℕ
aimed from to at t = pick (ℕ_discrete (at t) from) to (at t)

aimed_here : (from to : ℕ) (at : ℕ → ℕ) (t : ℕ) → at t ≡ from → aimed from to at t ≡ to
unfolding aimed
aimed_here from to at t e = go (ℕ_discrete (at t) from)
  where
    go : (d : Dec (at t ≡ from)) → pick d to (at t) ≡ to
    go (yes _) = refl
    go (no n) = absurd (n e)

aimed_else : (from to : ℕ) (at : ℕ → ℕ) (t : ℕ) → at t ≢ from → aimed from to at t ≡ at t
unfolding aimed
aimed_else from to at t ne = go (ℕ_discrete (at t) from)
  where
    go : (d : Dec (at t ≡ from)) → pick d to (at t) ≡ at t
    go (yes e) = absurd (ne e)
    go (no _) = refl

pub bare_first : (kind : Kind) (locks places s : ℕ) → IsBare (first_part kind locks places s).core
bare_first kind locks places s = none_at locks

module _ (key : Start) (c : State) (log : List Recorded) (at to : ℕ → ℕ) (counts : ℕ → Counts) (j k : ℕ) where
  -- the same facts of a number, where its view stands elsewhere
  moved : (p : Part) → to p.core.who ≡ k → PartFits key c log at counts j p → PartFits key c log to counts k p
  moved p here f = record { place = here; number = f.number; knows = f.knows; counted = f.counted; own = f.own }

  moves : (v : Sight) → to v.part.core.who ≡ k
      → ((i : ℕ) (p : Part) → get_elem? v.idle i ≡ some p → to p.core.who ≡ k) → Sits key c log at counts j v
      → Sits key c log to counts k v
  moves v here idle f = record {
    part = moved v.part here f.part;
    room = f.room;
    held = f.held;
    idle = λ i p there. let g = f.idle i p there in (moved p (idle i p there) g.0, g.1);
    apart = f.apart;
    differ = f.differ;
  }

-- without the first of its idle numbers a view speaks of the others
speaks_later : (v : Sight) (p : Part) (ps : List Part) (t : ℕ) → v.idle ≡ p ∷ ps → t ≢ p.core.who → Speaks v t
    → Speaks (record v { idle = ps }) t
speaks_later v p ps t is isnt = ⊎_elim (λ own. inl own)
    (λ more. inr (go more.0 more.1 (ap (λ (l : List Part). get_elem? l more.0) (sym is) ∙ more.2) more.3))
  where
    go : (k : ℕ) (q : Part) → get_elem? (p ∷ ps) k ≡ some q → q.core.who ≡ t → (j : ℕ) × (q : Part)
        × (get_elem? ps j ≡ some q) × (q.core.who ≡ t)
    go zero q e is' = absurd (isnt (sym is' ∙ ap (λ (x : Part). x.core.who) (sym (some-injective p q e))))
    go (suc k) q e is' = (k, q, e, is')

at_behind : {A : Type 0} (xs ys : List A) (k : ℕ) (y : A) → get_elem? ys k ≡ some y → get_elem? (xs ++ ys) (length xs + k) ≡ some y
at_behind [] ys k y e = ap (get_elem? ys) (let z : 0 + k ≡ k = omega arith in z) ∙ e
at_behind (x ∷ xs) ys k y e = ap (get_elem? (x ∷ (xs ++ ys)))
    (let z : suc (length xs) + k ≡ suc (length xs + k) = omega arith in z) ∙ at_behind xs ys k y e

-- a view that took in another speaks of its own numbers, and of the other's
speaks_both : (v w : Sight) (t : ℕ) → Speaks v t → Speaks (with_seat v w) t
speaks_both v w t = ⊎_elim (λ own. inl own) (λ more. inr (more.0, more.1, at_longer v.idle (w.part ∷ w.idle) more.0 more.1 more.2, more.3))

speaks_other : (v w : Sight) (t : ℕ) → Speaks w t → Speaks (with_seat v w) t
speaks_other v w t = ⊎_elim (λ own. inr (length v.idle + 0, w.part, at_behind v.idle (w.part ∷ w.idle) 0 w.part refl, own))
    (λ more. inr (length v.idle + suc more.0, more.1, at_behind v.idle (w.part ∷ w.idle) (suc more.0) more.1 more.2, more.3))

module _ (key : Start) where
  -- a part that lay idle sits alone
  alone : (c : State) (log : List Recorded) (at : ℕ → ℕ) (counts : ℕ → Counts) (j size : ℕ) (p : Part)
      → size ≡ length (first_graph key) → PartFits key c log at counts j p → IsBare p.core
      → Sits key c log at counts j (sight_of size p)
  alone c log at counts j size p same fits bare = record {
    part = fits;
    room = length-replicate {A = Option _} size None ∙ same;
    held = λ n own small. absurd (true≢false (sym own ∙ bare n));
    idle = λ i q there. absurd (cc);
    apart = λ i q there. absurd (cc);
    differ = λ i l q t a b. absurd (cc);
  }

  abbrev pub cut : (s : St) → ℕ → Sight → Sight → St
  cut s id left right = record { words = s.words; homes = s.homes; views = set s.views id left ++ right ∷ [] }

  splits_at : (id : ℕ) (v : Sight) (p : Part) (ps : List Part) → v.seated ≡ true → v.idle ≡ p ∷ ps
      → (s : St) (r : Ruled key s) → get_elem? s.views id ≡ some v
      → Stays key s r (cut s id (record v { idle = ps }) (sight_of (length v.held) p))
  splits_at id v p ps seated is s r at = let f = r.seats id v at seated in let n : ℕ = length s.views in let to : ℕ
      → ℕ = put r.at p.core.who n in let left : Sight = record v { idle = ps } in
      let later : (k : ℕ) (q : Part) → get_elem? ps k ≡ some q
      → get_elem? v.idle (suc k) ≡ some q = λ k q e. ap (λ (l : List Part). get_elem? l (suc k)) is ∙ e in
      let at0 : get_elem? v.idle 0 ≡ some p = ap (λ (l : List Part). get_elem? l 0) is in let i0 = f.idle 0 p at0 in
      stays_as key s (cut s id left (sight_of (length v.held) p)) r to r.words r.homes
      (λ j u e on. ⊎_elim
      (λ was. seats_stay (Sits key r.core r.log to r.counts) s.views id left
      (λ _. moves key r.core r.log r.at to r.counts id id left
      (put_else r.at p.core.who n v.part.core.who (λ z. f.apart 0 p at0 (sym z)) ∙ f.part.place)
      (λ k q there. put_else r.at p.core.who n q.core.who
      (λ z. let y = f.differ (suc k) 0 q p (later k q there) at0 z in omega arith)
      ∙ (f.idle (suc k) q (later k q there)).0.place)
      (record {
        part = f.part;
        room = f.room;
        held = f.held;
        idle = λ k q there. f.idle (suc k) q (later k q there);
        apart = λ k q there. f.apart (suc k) q (later k q there);
        differ = λ k l q t a b same. let y = f.differ (suc k) (suc l) q t (later k q a) (later l t b) same in omega arith;
      }))
      (λ i d other there on'. let g = r.seats i d there on' in moves key r.core r.log r.at to r.counts i i d
      (put_else r.at p.core.who n d.part.core.who (λ z. other (sym g.part.place ∙ ap r.at z ∙ i0.0.place)) ∙ g.part.place)
      (λ k q there'. let h = (g.idle k q there').0.place in
      put_else r.at p.core.who n q.core.who (λ z. other (sym h ∙ ap r.at z ∙ i0.0.place)) ∙ h) g)
      j u was on)
      (λ now. subst (λ (x : ℕ × Sight). Sits key r.core r.log to r.counts x.0 x.1)
      (λ i. (sym (now.0 ∙ length-set s.views id left) i, now.1 i))
      (alone r.core r.log to r.counts n (length v.held) p f.room
      (moved key r.core r.log r.at to r.counts id n p (put_here r.at p.core.who n) i0.0) i0.1))
      (at_end (set s.views id left) (sight_of (length v.held) p) u j e))
      (λ t small. dite (ℕ_discrete t p.core.who)
      (λ mine. let to_n : to t ≡ n = ap to mine ∙ put_here r.at p.core.who n in record {
        view = sight_of (length v.held) p;
        stands = at_last (set s.views id left) (sight_of (length v.held) p) (to t) (length-set s.views id left ∙ sym to_n);
        seated = refl;
        speaks = inl (sym mine);
      })
      (λ isnt. there_longer (set s.views id left) (sight_of (length v.held) p ∷ []) (to t) t
      (subst (λ (k : ℕ). IsThere (set s.views id left) k t) (sym (put_else r.at p.core.who n t isnt))
      (there_set id left t at refl (speaks_later v p ps t is isnt) (r.there t small)))))

  -- the first of the idle numbers gets a seat of its own
  pub splits_on : (id : ℕ) (v : Sight) (p : Part) (ps : List Part) → v.seated ≡ true → v.idle ≡ p ∷ ps
      → (s : St) (r : Ruled key s) → get_elem? s.views id ≡ some v
      → Stays key s r (cut s id (without_first v) (first_seat (length v.held) v.idle))
  splits_on id v p ps seated is s r at =
      subst (λ (l : List Part). Stays key s r
      (cut s id (record v { idle = rest_of l }) (first_seat (length v.held) l))) (sym is)
      (splits_at id v p ps seated is s r at)

  pub splits : (id : ℕ) (v : Sight) (p : Part) (ps : List Part) → v.seated ≡ true → v.idle ≡ p ∷ ps
      → Splits (Ruled key) id v (without_first v) (first_seat (length v.held) v.idle)
  splits id v p ps seated is s r at = (splits_on id v p ps seated is s r at).ruled

  -- the numbers of a seat that holds nothing
  each_part : (c : State) (log : List Recorded) (at : ℕ → ℕ) (counts : ℕ → Counts) (j : ℕ) (w : Sight)
      → Sits key c log at counts j w → IsBare w.part.core
      → (i : ℕ) (p : Part) → get_elem? (w.part ∷ w.idle) i ≡ some p → PartFits key c log at counts j p × IsBare p.core
  each_part c log at counts j w g bare zero p e =
      subst (λ (x : Part). PartFits key c log at counts j x × IsBare x.core) (some-injective w.part p e)
      (g.part, bare)
  each_part c log at counts j w g bare (suc i) p e = g.idle i p e

  apart_parts : (c : State) (log : List Recorded) (at : ℕ → ℕ) (counts : ℕ → Counts) (j : ℕ) (w : Sight) → Sits key c log at counts j w
      → (i l : ℕ) (p q : Part) → get_elem? (w.part ∷ w.idle) i ≡ some p → get_elem? (w.part ∷ w.idle) l ≡ some q
      → p.core.who ≡ q.core.who → i ≡ l
  apart_parts c log at counts j w g zero zero p q a b same = refl
  apart_parts c log at counts j w g zero (suc l) p q a b same =
      absurd (g.apart l q b (sym same ∙ ap (λ (x : Part). x.core.who) (sym (some-injective w.part p a))))
  apart_parts c log at counts j w g (suc i) zero p q a b same =
      absurd (g.apart i p a (same ∙ ap (λ (x : Part). x.core.who) (sym (some-injective w.part q b))))
  apart_parts c log at counts j w g (suc i) (suc l) p q a b same = ap (λ (x : ℕ). suc x) (g.differ i l p q a b same)

  -- a seat that holds nothing lies idle in another
  pub joins_on : (id : ℕ) (v : Sight) (other : ℕ) (w : Sight) → v.seated ≡ true → w.seated ≡ true
      → IsBare w.part.core → (s : St) (r : Ruled key s) → get_elem? s.views id ≡ some v → other ≢ id
      → get_elem? (set s.views id (with_seat v w)) other ≡ some w
      → Stays key s r (record { words = s.words; homes = s.homes; views = set (set s.views id (with_seat v w)) other nobody })
  joins_on id v other w seated on bare s r at apart there =
      let theirs = ⊎_elim (λ (t : (other ≡ id) × (with_seat v w ≡ w)). absurd (apart t.0))
      (λ (t : (other ≢ id) × (get_elem? s.views other ≡ some w)). t.1)
      (at_set s.views id other (with_seat v w) w there) in
      let f = r.seats id v at seated in let g = r.seats other w theirs on in let to = aimed other id r.at in
      let n : ℕ = length v.idle in let both : Sight = with_seat v w in
      let stay : (t : ℕ) → r.at t ≡ id → to t ≡ id = λ t e. aimed_else other id r.at t (λ z. apart (sym z ∙ e)) ∙ e in
      let come : (t : ℕ) → r.at t ≡ other → to t ≡ id = λ t e. aimed_here other id r.at t e in
      let far : (t u : ℕ) → r.at t ≡ id → r.at u ≡ other → t ≢ u = λ t u a b e. apart (sym b ∙ ap r.at (sym e) ∙ a) in
      let more = each_part r.core r.log r.at r.counts other w g bare in let spread = apart_parts r.core r.log r.at r.counts other w g in
      stays_as key s (record { words = s.words; homes = s.homes; views = set (set s.views id both) other nobody }) r to r.words r.homes
      (seats_stay (Sits key r.core r.log to r.counts) (set s.views id both) other nobody (λ e. absurd (cc))
      (λ j d ne e on'. seats_stay (λ j d. j ≢ other → Sits key r.core r.log to r.counts j d) s.views id both
      (λ _ _. record {
        part = moved key r.core r.log r.at to r.counts id id v.part (stay v.part.core.who f.part.place) f.part;
        room = f.room;
        held = f.held;
        idle = λ k p e'. ⊎_elim
            (λ z. let i = f.idle k p z in (moved key r.core r.log r.at to r.counts id id p (stay p.core.who i.0.place) i.0, i.1))
            (λ z. let i = more z.0 p z.2 in (moved key r.core r.log r.at to r.counts other id p (come p.core.who i.0.place) i.0, i.1))
            (at_both v.idle (w.part ∷ w.idle) p k e');
        apart = λ k p e'. ⊎_elim (λ z. f.apart k p z)
            (λ z. λ same. far v.part.core.who p.core.who f.part.place (more z.0 p z.2).0.place (sym same))
            (at_both v.idle (w.part ∷ w.idle) p k e');
        differ = λ k l p q a b same. ⊎_elim
            (λ y. ⊎_elim (λ z. f.differ k l p q y z same)
            (λ z. absurd (far p.core.who q.core.who (f.idle k p y).0.place (more z.0 q z.2).0.place same))
            (at_both v.idle (w.part ∷ w.idle) q l b))
            (λ y. ⊎_elim (λ z. absurd (far q.core.who p.core.who (f.idle l q z).0.place (more y.0 p y.2).0.place
            (sym same))) (λ z. y.1 ∙ ap (λ (x : ℕ). n + x) (spread y.0 z.0 p q y.2 z.2 same) ∙ sym z.1)
            (at_both v.idle (w.part ∷ w.idle) q l b))
            (at_both v.idle (w.part ∷ w.idle) p k a);
      })
      (λ i d' ne' e' on'' far_off. let h = r.seats i d' e' on'' in moves key r.core r.log r.at to r.counts i i d'
      (aimed_else other id r.at d'.part.core.who (λ z. far_off (sym h.part.place ∙ z)) ∙ h.part.place)
      (λ k q e''. let y = (h.idle k q e'').0.place in aimed_else other id r.at q.core.who (λ z. far_off (sym y ∙ z)) ∙ y) h)
      j d e on' ne))
      (λ t small. let x = r.there t small in dite (ℕ_discrete (r.at t) other)
      (λ come_here. let same : w ≡ x.view = some-injective w x.view (sym theirs ∙ ap (get_elem? s.views) (sym come_here) ∙ x.stands) in
      subst (λ (k : ℕ). IsThere (set (set s.views id both) other nobody) k t) (sym (come t come_here))
      (there_else (set s.views id both) other nobody id t (λ z. apart (sym z)) (record {
        view = both;
        stands = set_here s.views id both (place_low s.views id v at);
        seated = seated;
        speaks = speaks_other v w t (subst (λ (y : Sight). Speaks y t) (sym same) x.speaks);
      })))
      (λ isnt. subst (λ (k : ℕ). IsThere (set (set s.views id both) other nobody) k t) (sym (aimed_else other id r.at t isnt))
      (there_else (set s.views id both) other nobody (r.at t) t isnt
      (there_set id both t at refl (speaks_both v w t) x))))

  pub joins : (id : ℕ) (v : Sight) (other : ℕ) (w : Sight) → v.seated ≡ true → w.seated ≡ true → IsBare w.part.core
      → Joins (Ruled key) id v other w (with_seat v w) nobody
  joins id v other w seated on bare s r at apart there = (joins_on id v other w seated on bare s r at apart there).ruled

-- ---- the table as it is made

all_zero : (n i : ℕ) → get_or (replicate {A = ℕ} n 0) i 0 ≡ 0
all_zero zero i = refl
all_zero (suc n) zero = refl
all_zero (suc n) (suc i) = all_zero n i

first_at : (kind : Kind) (locks places s n k : ℕ) (p : Part) → get_elem? (first_parts kind locks places s n) k ≡ some p
    → (p ≡ first_part kind locks places (s + k)) × (k < n)
first_at kind locks places s zero k p e = absurd (cc)
first_at kind locks places s (suc n) zero p e = (
  sym (some-injective (first_part kind locks places s) p e)
      ∙ ap (first_part kind locks places) (let z : s ≡ s + 0 = omega arith in z),
  omega arith,
)
first_at kind locks places s (suc n) (suc k) p e = let t = first_at kind locks places (s + 1) n k p e in (
  t.0 ∙ ap (first_part kind locks places) (let z : s + 1 + k ≡ s + suc k = omega arith in z),
  (let h = t.1 in omega arith),
)

parts_at : (kind : Kind) (locks places s n k : ℕ) → k < n → get_elem? (first_parts kind locks places s n) k ≡ some (first_part kind locks places (s + k))
parts_at kind locks places s zero k low = absurd (omega arith)
parts_at kind locks places s (suc n) zero low = ap (λ (t : ℕ). some (first_part kind locks places t)) (let z : s ≡ s + 0 = omega arith in z)
parts_at kind locks places s (suc n) (suc k) low = parts_at kind locks places (s + 1) n k (omega arith)
    ∙ ap (λ (t : ℕ). some (first_part kind locks places t)) (let z : s + 1 + k ≡ s + suc k = omega arith in z)

module _ (key : Start) (some_seat : 1 ≤ key.seats) (few : key.seats ≤ key.places) (size : IsSize key.places) (many : key.locks ≤ 16777216)
    (fits : length (first_graph key) ≤ key.locks) (graph : AreNodes (first_graph key)) where
  abbrev first_core : State
  first_core = start key.kind key.locks key.places

  first_fits : (t : ℕ) → t < key.seats → PartFits key first_core [] (λ _. 0) (λ _. no_counts) 0 (first_part key.kind key.locks key.places t)
  first_fits t small = record {
    place = refl;
    number = small;
    knows = knows_start key.kind key.locks key.places t (omega arith);
    counted = refl;
    own = refl;
  }

  first_sits : Sits key first_core [] (λ _. 0) (λ _. no_counts) 0 (first_sight key)
  first_sits = record {
    part = first_fits (key.seats - 1) (omega arith);
    room = length-replicate {A = Option _} (length (first_graph key)) None;
    held = λ n own small. absurd (true≢false (sym own ∙ bare_first key.kind key.locks key.places (key.seats - 1) n));
    idle = λ k p e. let t = first_at key.kind key.locks key.places 0 (key.seats - 1) k p e in
        subst (λ (q : Part). PartFits key first_core [] (λ _. 0) (λ _. no_counts) 0 q × IsBare q.core) (sym t.0)
        (first_fits (0 + k) (let h = t.1 in omega arith), bare_first key.kind key.locks key.places (0 + k));
    apart = λ k p e is. let t = first_at key.kind key.locks key.places 0 (key.seats - 1) k p e in let h = t.1 in
        let w = ap (λ (q : Part). q.core.who) t.0 in omega arith;
    differ = λ k l p q a b is. let w = ap (λ (x : Part). x.core.who)
        (first_at key.kind key.locks key.places 0 (key.seats - 1) k p a).0 in
        let y = ap (λ (x : Part). x.core.who) (first_at key.kind key.locks key.places 0 (key.seats - 1) l q b).0 in
        omega arith;
  }

  first_seats : (j : ℕ) (v : Sight) → get_elem? (first_sight key ∷ []) j ≡ some v → Sits key first_core [] (λ _. 0) (λ _. no_counts) j v
  first_seats zero v e = subst (Sits key first_core [] (λ _. 0) (λ _. no_counts) 0) (some-injective (first_sight key) v e) first_sits
  first_seats (suc j) v e = absurd (cc)

  first_there : (t : ℕ) → t < key.seats → IsThere (first_sight key ∷ []) 0 t
  first_there t small = record {
    view = first_sight key;
    stands = refl;
    seated = refl;
    speaks = dite (ℕ_discrete (key.seats - 1) t) (λ is. inl is)
        (λ isnt. inr (
          t,
          first_part key.kind key.locks key.places (0 + t),
          parts_at key.kind key.locks key.places 0 (key.seats - 1) t
              (omega arith),
          omega arith,
        ));
  }

  pub opens : (xs : List Cell) → length xs ≡ 64 + key.locks
      → ((n : ℕ) → n < length (first_graph key) → get_elem? xs n ≡ some (Content (node_at (first_graph key) n)))
      → ((n : ℕ) → n < key.locks → get_elem? xs (64 + n) ≡ some (Line []))
      → Ruled key (opening (replicate (lock_at key.locks key.locks + 8 * key.places) 0) xs (first_sight key))
  opens xs long nodes lists = record {
    core = first_core;
    log = [];
    at = λ _. 0;
    counts = λ _. no_counts;
    all = 0;
    reached = at_start key.kind key.locks key.places;
    kind = refl;
    locks = refl;
    many = many;
    fits = fits;
    places = refl;
    sizes = size;
    seats_there = few;
    drawn = omega arith;
    strangers = λ t big. record {
      stamp = refl;
      bare = λ n own. absurd cc;
      outside = λ n z. absurd (let y : 0 ≡ suc t = z in omega arith);
      waits = λ n e h. absurd h;
    };
    words = record {
      wide = length-replicate {A = ℕ} (lock_at key.locks key.locks + 8 * key.places) 0;
      owners = λ n l. all_zero (lock_at key.locks key.locks + 8 * key.places) (lock_at key.locks n);
      guards = λ n l. all_zero (lock_at key.locks key.locks + 8 * key.places) (lock_at key.locks n + 1);
      signs = λ t l. all_zero (lock_at key.locks key.locks + 8 * key.places) (lock_at key.locks key.locks + 8 * t);
      cancels = λ t l. all_zero (lock_at key.locks key.locks + 8 * key.places) (lock_at key.locks key.locks + 8 * t + 1);
      drawn = all_zero (lock_at key.locks key.locks + 8 * key.places) 0;
      front = all_zero (lock_at key.locks key.locks + 8 * key.places) 8;
    };
    homes = record {
      deep = length-map xs (λ (x : Cell). some x) ∙ long;
      nodes = λ n l _. at_map (λ (x : Cell). some x) xs n (Content (node_at (first_graph key) n)) (nodes n l);
      lists = λ n l _. at_map (λ (x : Cell). some x) xs (64 + n) (Line []) (lists n l);
    };
    counted = record {
      legal = tt;
      graph = graph;
      size = refl;
      front = refl;
      stamps = sym (total_zero key.places);
      balanced = λ t u. let z = one_of_nobody t u in omega arith;
      strangers = λ t big. refl;
      few = λ t. omega arith;
      brief = λ t. omega arith;
      callers = λ k x e. absurd (cc);
    };
    seats = λ j v e _. first_seats j v e;
    there = first_there;
  }

  -- what it tells then is the start of the core, and no commits
  pub opens_start : (xs : List Cell) (long : length xs ≡ 64 + key.locks)
      (nodes : (n : ℕ) → n < length (first_graph key)
      → get_elem? xs n ≡ some (Content (node_at (first_graph key) n)))
      (lists : (n : ℕ) → n < key.locks → get_elem? xs (64 + n) ≡ some (Line []))
      → ((opens xs long nodes lists).core ≡ first_core) × ((opens xs long nodes lists).log ≡ [])
  unfolding opens
  opens_start xs long nodes lists = (refl, refl)
