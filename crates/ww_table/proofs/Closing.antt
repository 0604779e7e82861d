-- Closing a table: the records in the order of their places.
use Rattle.std.proofs.Common.{◌≡◌, ◌≢◌, ℕ, zero, suc, ◌+◌, Bool, true, false, eqb, List, [], ◌∷◌, ◌++◌, length, sym, refl, ap, ◌∙◌, subst, ⊎_elim, inl, inr, arith, Option, Some, None, length-append}
use Rattle.std.specs.Bool.{if◌then◌else◌}
use Rattle.std.specs.List.{AllByRecursion}
use mathlib.Core.Option.{some, some-injective}
use lib.ListN.{get_elem?}
use Rattle.ww_queue.specs.Queue.{Has}
use Rattle.ww_plain.specs.declared.history.Record.{Record}
use Rattle.ww_plain.specs.History.{Recorded, recorded_of, history_of, part_from, part_of}
use Rattle.ww_plain.proofs.Members.{eqb_same}
use Rattle.atomic_table.specs.declared.shared.Seat.{Seat}
use Rattle.atomic_table.specs.Seated.{TableId}
use Rattle.ww_view.specs.View.{IsBare}
use Rattle.ww_invariant.specs.declared.cells.Cell.{Cell}
use Rattle.ww_invariant.specs.declared.cells.Part.{Part}
use Rattle.ww_invariant.specs.declared.cells.Sight.{Sight}
use Rattle.ww_table.specs.declared.seat.Stepper.{Stepper}
use Rattle.ww_invariant.specs.Steps.{with_seat}
use Rattle.ww_invariant.specs.Rule.{own_of}
use Rattle.ww_invariant.proofs.Filling.{has_more, has_last, has_either}
use Rattle.ww_invariant.specs.Records.{ArePut, AreFree, somes}
use Rattle.ww_table.specs.Closed.{HasCome, AreLaid, IsGathered, parts_of}

pub has_all : {A : Type 0} (P : A → Type 0) (xs : List A) (x : A) → AllByRecursion P xs → Has xs x → P x
has_all P [] x all h = absurd h
has_all P (y ∷ ys) x all h = ⊎_elim (λ is. subst P (sym is) all.0) (λ more. has_all P ys x all.1 more) h

-- ---- records in their places

-- the records of one more number
pub laid_more : (parts : List Part) (p : Part) (old new : List (Option Record)) (own : List (ℕ × Record))
    → AreLaid parts old → own ≡ p.own → ArePut old own new → AreLaid (parts ++ p ∷ []) new
laid_more parts p old new own laid same put = record {
  sound = λ i r e. ⊎_elim
      (λ was. let s = laid.sound i r was in (s.0, has_more parts (p ∷ []) s.0 s.1, s.2))
      (λ h. (p, has_last parts p, subst (λ l. Has l (i, r)) same h))
      (put.sound i r e);
  filled = λ q i r h own'. ⊎_elim
      (λ was. let f = laid.filled q i r was own' in put.kept i f.0 f.1)
      (λ is. put.filled i r (subst (λ l. Has l (i, r)) (ap (λ (x : Part). x.own) is ∙ sym same) own'))
      (has_either parts p q h);
}

pub laid_none : (places : List (Option Record)) → ((i : ℕ) (r : Record) → get_elem? places i ≢ some (Some r)) → AreLaid [] places
laid_none places none = record { sound = λ i r e. absurd (none i r e); filled = λ p i r h. absurd h }

-- ---- the history that they are

-- a part has the records of its caller at their places
pub part_has : (place caller i : ℕ) (log : List Recorded) (x : Recorded) → get_elem? log i ≡ some x
    → x.caller ≡ caller → Has (part_from place caller log) (place + i, x)
part_has place caller i [] x e by = absurd cc
part_has place caller zero (y ∷ log) x e by = let same : y ≡ x = some-injective y x e in
    subst (λ (b : Bool). Has (if b then (place, y) ∷ part_from (place + 1) caller log else part_from (place + 1)
    caller log) (place + 0, x)) (sym (ap (λ (k : ℕ). eqb k caller) (ap (λ (z : Recorded). z.caller) same ∙ by)
    ∙ eqb_same caller))
    (inl (λ k. ((let z : place + 0 ≡ place = omega arith in z) k, sym same k)))
part_has place caller (suc i) (y ∷ log) x e by =
    go (eqb y.caller caller) (subst (λ (k : ℕ). Has (part_from (place + 1) caller log) (k, x))
    (let z : place + 1 + i ≡ place + suc i = omega arith in z) (part_has (place + 1) caller i log x e by))
  where
    go : (b : Bool) → Has (part_from (place + 1) caller log) (place + suc i, x)
        → Has (if b then (place, y) ∷ part_from (place + 1) caller log else part_from (place + 1) caller log)
        (place + suc i, x)
    go true h = inr h
    go false h = h

-- and no others
pub has_part : (place caller : ℕ) (log : List Recorded) (j : ℕ) (x : Recorded)
    → Has (part_from place caller log) (j, x) → (i : ℕ) × (j ≡ place + i) × (get_elem? log i ≡ some x)
has_part place caller [] j x h = absurd h
has_part place caller (y ∷ log) j x h = go (eqb y.caller caller) h (λ more. has_part (place + 1) caller log j x more)
  where
    later : ((i : ℕ) × (j ≡ place + 1 + i) × (get_elem? log i ≡ some x)) → (i : ℕ) × (j ≡ place + i) × (get_elem? (y ∷ log) i ≡ some x)
    later t = (suc t.0, (let z = t.1 in omega arith), t.2)

    go : (b : Bool) → Has (if b then (place, y) ∷ part_from (place + 1) caller log else part_from (place + 1) caller log) (j, x)
        → (Has (part_from (place + 1) caller log) (j, x) → (i : ℕ) × (j ≡ place + 1 + i)
        × (get_elem? log i ≡ some x)) → (i : ℕ) × (j ≡ place + i) × (get_elem? (y ∷ log) i ≡ some x)
    go true h more = ⊎_elim (λ is. (
      0,
      (let z = ap (λ (p : ℕ × Recorded). p.0) is in omega arith),
      ap some
          (sym (ap (λ (p : ℕ × Recorded). p.1) is)),
    )) (λ t. later (more t)) h
    go false h more = later (more h)

own_has : (own : List (ℕ × Record)) (i : ℕ) (x : Recorded) → Has (own_of own) (i, x) → (r : Record) × Has own (i, r) × (recorded_of r ≡ x)
own_has [] i x h = absurd h
own_has (p ∷ ps) i x h = ⊎_elim (λ is.
    (p.1, inl (λ k. (ap (λ (q : ℕ × Recorded). q.0) is k, p.1)), sym (ap (λ (q : ℕ × Recorded). q.1) is)))
    (λ more. let t = own_has ps i x more in (t.0, inr t.1, t.2)) h

has_own : (own : List (ℕ × Record)) (i : ℕ) (r : Record) → Has own (i, r) → Has (own_of own) (i, recorded_of r)
has_own [] i r h = absurd h
has_own (p ∷ ps) i r h = ⊎_elim (λ is. inl
    (ap (λ (q : ℕ × Record). let z : ℕ × Recorded = (q.0, recorded_of q.1) in z) is))
    (λ more. inr (has_own ps i r more)) h

-- where the places have the records of a history and nothing beyond, they are it
pub somes_are : (places : List (Option Record)) (log : List Recorded)
    → ((i : ℕ) (x : Recorded) → get_elem? log i ≡ some x → (r : Record) × (get_elem? places i ≡ some (Some r))
    × (recorded_of r ≡ x))
    → ((i : ℕ) (r : Record) → get_elem? places i ≡ some (Some r) → (x : Recorded) × (get_elem? log i ≡ some x))
    → history_of (somes places) ≡ log
somes_are [] [] full sound = refl
somes_are [] (x ∷ log) full sound = absurd (let t = full 0 x refl in let z = t.1 in cc)
somes_are (None ∷ os) [] full sound = somes_are os [] (λ i x e. absurd cc) (λ i r e. sound (suc i) r e)
somes_are (Some r ∷ os) [] full sound = absurd (let t = sound 0 r refl in let z = t.1 in cc)
somes_are (None ∷ os) (x ∷ log) full sound = absurd (let t = full 0 x refl in let z = some-injective None (Some t.0) t.1 in cc)
somes_are (Some r ∷ os) (x ∷ log) full sound = let t = full 0 x refl in
    let same : Some r ≡ Some t.0 = some-injective (Some r) (Some t.0) t.1 in
    (λ i. (ap recorded_of (let z : r ≡ t.0 = cc in z) ∙ t.2) i ∷ somes_are os log (λ i x e. full (suc i) x e)
    (λ i r e. sound (suc i) r e) i)

-- the places of all numbers are the history
pub laid_is : (log : List Recorded) (parts : List Part) (places : List (Option Record)) → AreLaid parts places
    → ((p : Part) → Has parts p → own_of p.own ≡ part_of p.core.who log)
    → ((i : ℕ) (x : Recorded) → get_elem? log i ≡ some x → (p : Part) × Has parts p × (p.core.who ≡ x.caller))
    → history_of (somes places) ≡ log
laid_is log parts places laid owns all = somes_are places log
    (λ i x e. let w = all i x e in let h =
    subst (λ l. Has l (0 + i, x)) (sym (owns w.0 w.1)) (part_has 0 w.0.core.who i log x e (sym w.2)) in
    let t = own_has w.0.own (0 + i) x h in
    let f = laid.filled w.0 (0 + i) t.0 w.1 t.1 in
    let at : get_elem? places i ≡ some (Some f.0) = ap (get_elem? places) (let z : i ≡ 0 + i = omega arith in z)
    ∙ f.1 in
    let u = there i f.0 at in (f.0, at, some-injective _ _ (sym u ∙ e)))
    (λ i r e. (recorded_of r, there i r e))
  where
    there : (i : ℕ) (r : Record) → get_elem? places i ≡ some (Some r) → get_elem? log i ≡ some (recorded_of r)
    there i r e = let s = laid.sound i r e in
        let p = has_part 0 s.0.core.who log i (recorded_of r)
        (subst (λ l. Has l (i, recorded_of r)) (owns s.0 s.1) (has_own s.0.own i r s.2)) in
        ap (get_elem? log) (let z : i ≡ p.0 = (let y = p.1 in omega arith) in z) ∙ p.2

-- ---- seats that are joined

pub all_more : {A : Type 0} (P Q : A → Type 0) → ((x : A) → P x → Q x) → (xs : List A) → AllByRecursion P xs → AllByRecursion Q xs
all_more P Q more [] all = tt
all_more P Q more (x ∷ xs) all = (more x all.0, all_more P Q more xs all.1)

pub gathered_one : (table : TableId) (s : Stepper) (token : Seat Cell Sight) (old new : List (Option Record))
    → HasCome table s → token ≡ s.seat → AreFree old → ArePut old s.records.items new
    → IsGathered table (s ∷ []) (length old) token new
gathered_one table s token old new come is free put =
    subst (λ (t : Seat Cell Sight). IsGathered table (s ∷ []) (length old) t new) (sym is) (record {
      home = come.seated.home;
      seated = come.seated.seated;
      bare = come.bare;
      size = put.size;
      laid = subst (λ l. AreLaid (s.seat.me.0.part ∷ l) new) (sym come.seated.alone)
          (laid_more [] s.seat.me.0.part old new s.records.items (laid_none old free) come.seated.records put);
      all = λ t h. ⊎_elim (λ same. inl (ap (λ (x : Stepper). x.seat.me.0.part) same)) (λ none. absurd none) h;
      many = let l = ap (λ (ps : List Part). length ps) come.seated.alone in omega arith;
    })

pub gathered_more : (table : TableId) (seats : List Stepper) (s : Stepper) (count : ℕ) (token next : Seat Cell Sight)
    (old new : List (Option Record)) → IsGathered table seats count token old → HasCome table s
    → ArePut old s.records.items new
    → next.table_id ≡ token.table_id → next.me.0 ≡ with_seat token.me.0 s.seat.me.0 → IsGathered table (seats ++ s ∷ []) count next new
gathered_more table seats s count token next old new g come put home view =
    let parts : parts_of next.me.0 ≡ parts_of token.me.0 ++ s.seat.me.0.part ∷ [] = ap parts_of view
    ∙ ap (λ l. token.me.0.part ∷ (token.me.0.idle ++ s.seat.me.0.part ∷ l)) come.seated.alone in record {
      home = home ∙ g.home;
      seated = ap (λ (v : Sight). v.seated) view ∙ g.seated;
      bare = subst (λ (v : Sight). IsBare v.part.core) (sym view) g.bare;
      size = put.size ∙ g.size;
      laid = subst (λ l. AreLaid l new) (sym parts)
          (laid_more (parts_of token.me.0) s.seat.me.0.part old new s.records.items g.laid come.seated.records put);
      all = λ t h. subst (λ l. Has l t.seat.me.0.part) (sym parts) (⊎_elim
          (λ was. has_more (parts_of token.me.0) (s.seat.me.0.part ∷ []) t.seat.me.0.part (g.all t was))
          (λ same. subst (λ (p : Part). Has (parts_of token.me.0 ++ s.seat.me.0.part ∷ []) p)
          (ap (λ (x : Stepper). x.seat.me.0.part) (sym same)) (has_last (parts_of token.me.0) s.seat.me.0.part))
          (has_either seats s t h));
      many = let l = ap (λ (ps : List Part). length ps) parts in
          let a = length-append (parts_of token.me.0) (s.seat.me.0.part ∷ []) in
          let b = length-append seats (s ∷ []) in let m = g.many in omega arith;
    }

-- the seats in the order in which they came
pub gathered_all : (table : TableId) (seats later : List Stepper) (last : Stepper) (count : ℕ)
    (token : Seat Cell Sight) (places : List (Option Record)) → IsGathered table (last ∷ later) count token places
    → seats ≡ later ++ last ∷ [] → IsGathered table seats count token places
gathered_all table seats later last count token places g is = record {
  home = g.home;
  seated = g.seated;
  bare = g.bare;
  size = g.size;
  laid = g.laid;
  all = λ s h. g.all s (⊎_elim (λ was. inr was) (λ same. inl same) (has_either later last s (subst (λ l. Has l s) is h)));
  many = let l = ap (λ (ss : List Stepper). length ss) is in let a = length-append later (last ∷ []) in let m = g.many in omega arith;
}

pub none_left : {A : Type 0} (xs : List A) → length xs ≡ 0 → xs ≡ []
none_left [] e = refl
none_left (x ∷ xs) e = absurd (omega arith)
