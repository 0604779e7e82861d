-- A commit: what the transaction makes of the nodes held is what it makes of them in the graph that it was prepared on.
use Rattle.std.proofs.Common.{◌≡◌, ℕ, zero, suc, ◌+◌, ◌-◌, ◌++◌, ◌<◌, ◌≤◌, true, false, eqb, List, [], ◌∷◌, length, map, drop, get_or, set, ◌^◌, refl, sym, ap, ◌∙◌, subst, ⊎_elim, inl, inr, arith, Option, Some}
use Rattle.std.proofs.lemmas.List.{length-map, length-append}
use Rattle.std.specs.Prelude.{vec_len, vec_capacity}
use Rattle.atomic_table.specs.Seated.{TableId}
use Rattle.ww_table.specs.declared.board.Board.{Board}
use Rattle.ww_table.specs.declared.seat.Stepper.{Stepper}
use Rattle.ww_table.specs.Seat.{IsSeated}
use Rattle.ww_seat.specs.Standings.{Standing, standing_of, MayCommit}
use Rattle.std.specs.List.{AllByRecursion}
use mathlib.Core.Logic.{dite}
use mathlib.Core.Option.{none, some}
use native.Mathlib.Decide.{ℕ_discrete, dec_le}
use lib.ListN.{get_elem?}
use Rattle.ww_plain.specs.declared.node.Node.{Node}
use Rattle.ww_plain.specs.declared.history.Record.{Record}
use Rattle.ww_plain.specs.Numbers.{is_among}
use Rattle.ww_plain.specs.Graph.{node_at}
use Rattle.ww_plain.specs.Footprint.{footprint_of}
use Rattle.ww_plain.specs.Transaction.{transaction_of, Transaction, Fits}
use Rattle.ww_plain.specs.Meaning.{graph_after}
use Rattle.ww_plain.specs.Laws.{IsSameInside}
use Rattle.ww_plain.specs.History.{recorded_of, IsNext}
use Rattle.ww_plain.proofs.Members.{true_or_false, or_cases, or_false, same_from_eqb, is_among-head, is_among-tail, eqb_same}
use Rattle.ww_plain.proofs.Frames.{outside, inside}
use Rattle.ww_view.specs.View.{owns, IsAway}
use Rattle.ww_invariant.specs.declared.cells.Cell.{Cell}
use Rattle.ww_invariant.specs.declared.cells.Cell.TheVariants.{Content}
use Rattle.ww_invariant.specs.declared.cells.Sight.{Sight}
use Rattle.ww_invariant.specs.Rule.{Sat}
use Rattle.ww_invariant.specs.Out.{AreOthers, slot_of}
use Rattle.ww_invariant.specs.Steps.{known, graph_of, renewed, MayPlace, placing}
use Rattle.ww_invariant.proofs.Places.{graph_at, renewed_long, renewed_at}
use Rattle.ww_seat.specs.Orderly.{IsOrderly}
use Rattle.ww_seat.specs.Accounts.{Account, account_of}
use Rattle.ww_seat.specs.Calls.{HoldsAll, HasCommitted}
use Rattle.ww_seat.specs.declared.committing.NodeChange.{NodeChange}
use Rattle.ww_seat.specs.Commits.{naming, change_at, IsChanged}
use Rattle.ww_seat.proofs.Outside.{orderly_still, orderly_swapped, orderly_named}
use Rattle.atomic_table.proofs.Lists.{set_here, set_else}

-- behind the end of a list is nothing
item_past : {A : Type 0} (xs : List A) (n : ℕ) → length xs ≤ n → get_elem? xs n ≡ none
item_past [] n past = refl
item_past (x ∷ xs) zero past = absurd (omega arith)
item_past (x ∷ xs) (suc n) past = item_past xs n (omega arith)

-- ---- the nodes change one after another, the last one first

-- a node that the seat owns is out, whatever the view names
pub out_there : {size : ℕ} {held : List (Option Node)} {after : List Node} {ns : List ℕ} {m : Sat} (n : ℕ) → IsChanged size held after ns m
    → n < size → owns m.0.part.core n ≡ true → (x : Node) × (slot_of m.1 n ≡ Some (Content x))
out_there n is low own = let t = is.orderly.nodes n low own in (t.0, t.2)

changed_more : {size : ℕ} {held : List (Option Node)} {after : List Node} {ns : List ℕ} {m m' : Sat} {n : ℕ} {x : Node}
    → IsChanged size held after ns m → n < size → owns m.0.part.core n ≡ true
    → (others : List (ℕ × Cell)) × AreOthers m.1 n (Content x) others × (m' ≡ (m.0, (n, Content (node_at after n)) ∷ others))
    → IsChanged size held after (n ∷ ns) m'
changed_more {after} {ns} {n} is low own t = let y : Node = node_at after n in let long = is.orderly.held in record {
  now = set is.now n (Some y);
  orderly = orderly_swapped is.orderly low own t.1 (ap (λ (z : Sat). naming z (set is.now n (Some y))) t.2);
  named = λ k e. dite (ℕ_discrete k n) (λ same. subst (λ (j : ℕ). get_elem? (set is.now n (Some y)) j ≡ some (Some (node_at after j))) (sym same)
      (set_here is.now n (Some y) (omega arith)))
      (λ differ. set_else is.now n k (Some y) differ ∙ is.named k (elim (or_cases (eqb n k) (is_among k ns) e) [
        | inl z ↦ absurd (differ (sym (same_from_eqb n k z)))
        | inr later ↦ later
      ]));
  others = λ k e. let both = or_false (eqb n k) (is_among k ns) e in dite (ℕ_discrete k n)
      (λ same. absurd (let w = eqb_same n ∙ refl in let u = ap (eqb n) same in cc))
      (λ differ. set_else is.now n k (Some y) differ ∙ is.others k both.1);
}

-- ---- the loop over the nodes

pub change_item : (before after : List Node) (ns : List ℕ) (i : ℕ) (d : NodeChange) → i < length ns
    → get_or (map (change_at before after) ns) i d ≡ change_at before after (get_or ns i 0)
change_item before after [] i d lt = absurd (omega arith)
change_item before after (n ∷ ns) zero d lt = refl
change_item before after (n ∷ ns) (suc i) d lt = change_item before after ns i d (omega arith)

pub all_change : (P : ℕ → Type 0) (before after : List Node) (ns : List ℕ) → ((n : ℕ) → is_among n ns ≡ true → P n)
    → AllByRecursion (λ c. P c.number) (map (change_at before after) ns)
all_change P before after [] each = tt
all_change P before after (n ∷ ns) each =
    (each n (is_among-head n ns), all_change P before after ns (λ k e. each k (is_among-tail n k ns e)))

pub drop_here : (ns : List ℕ) (i : ℕ) → i < length ns → drop i ns ≡ get_or ns i 0 ∷ drop (suc i) ns
drop_here [] i lt = absurd (omega arith)
drop_here (n ∷ ns) zero lt = refl
drop_here (n ∷ ns) (suc i) lt = drop_here ns i (omega arith)

-- the node before those that were written was written
pub changed_next : {size : ℕ} {held : List (Option Node)} (before : List Node) {after : List Node} (ns : List ℕ) {changes : List NodeChange} (i : ℕ)
    (d : NodeChange) {m m' : Sat} {x : Node} → changes ≡ map (change_at before after) ns → i < length ns
    → IsChanged size held after (drop (suc i) ns) m → (get_or changes i d).number < size → owns m.0.part.core (get_or changes i d).number ≡ true
    → (others : List (ℕ × Cell)) × AreOthers m.1 (get_or changes i d).number (Content x) others
    × (m' ≡ (m.0, ((get_or changes i d).number, Content (get_or changes i d).after) ∷ others)) → IsChanged size held after (drop i ns) m'
changed_next {size} {held} before {after} ns {changes} i d {m} {m'} {x} are lt is low own t =
    let n : ℕ = get_or ns i 0 in
    let here : get_or changes i d ≡ change_at before after n = ap (λ (cs : List NodeChange). get_or cs i d) are
    ∙ change_item before after ns i d lt in
    subst (λ (l : List ℕ). IsChanged size held after l m') (sym (drop_here ns i lt)) (changed_more is
    (subst (λ (c : NodeChange). c.number < size) here low) (sym (ap (λ (c : NodeChange). owns m.0.part.core c.number) here) ∙ own)
    (subst (λ (c : NodeChange). (others : List (ℕ × Cell)) × AreOthers m.1 c.number (Content x) others
    × (m' ≡ (m.0, (c.number, Content c.after) ∷ others))) here t))

-- ---- the record may be placed, and the nodes are as it says

module _ {size : ℕ} {m : Sat} (r : Record) {before : List Node} (was : IsOrderly size m)
    (next : IsNext before (recorded_of r)) (sizes : length before ≡ size)
    (holds : HoldsAll m before (footprint_of before (transaction_of r.txn))) where
  abbrev t : Transaction
  t = transaction_of r.txn

  abbrev after : List Node
  after = graph_after before t

  abbrev ns : List ℕ
  ns = footprint_of before t

  long : length (graph_of m.0.held) ≡ size
  long = length-map m.0.held known ∙ was.held

  law : IsSameInside before (graph_of m.0.held) t
  law = inside before (graph_of m.0.held) t next.fits (sizes ∙ sym long) (λ n e. sym (graph_at m.0.held n (node_at before n) (holds n e).1))

  among : (n : ℕ) → is_among n ns ≡ is_among n (footprint_of (graph_of m.0.held) t)
  among n = ap (is_among n) (sym law.footprint)

  next_held : IsNext (graph_of m.0.held) (recorded_of r)
  next_held = record {
    fits = subst (λ (k : ℕ). Fits k t) (sizes ∙ sym long) next.fits;
    no_double = next.no_double;
    answered = law.answer ∙ next.answered;
  }

  pub may_place : IsAway m.0.part.core → (n : ℕ) × (owns m.0.part.core n ≡ true) → r.caller ≡ m.0.part.core.who
      → r.seq ≡ length m.0.part.own → length m.0.part.own + 1 < 2 ^ 32 → MayPlace m.0 (recorded_of r)
  may_place away owner caller seq fewer = record {
    away = away;
    owner = owner;
    caller = caller;
    seq = seq;
    next = next_held;
    covers = λ n e. (holds n (among n ∙ e)).0;
    fewer = fewer;
  }

  abbrev renewed_held : List (Option Node)
  renewed_held = renewed 0 m.0.held (graph_after (graph_of m.0.held) t)

  -- what the view names after the record is placed
  named_after : (n : ℕ) → is_among n ns ≡ true → get_elem? renewed_held n ≡ some (Some (node_at after n))
  named_after n e = renewed_at 0 m.0.held (graph_after (graph_of m.0.held) t) n (node_at before n) (holds n e).1
      ∙ ap (λ (x : Node). some (Some x)) (ap (node_at (graph_after (graph_of m.0.held) t))
      (let z : 0 + n ≡ n = omega arith in z) ∙ sym (law.agree n e))

  named_else : (n : ℕ) → is_among n ns ≡ false → owns m.0.part.core n ≡ true → get_elem? renewed_held n ≡ get_elem? m.0.held n
  named_else n e own = dite (dec_le size n)
      (λ beyond. item_past renewed_held n (let l = renewed_long 0 m.0.held (graph_after (graph_of m.0.held) t) in
      let w = was.held in omega arith) ∙ sym (item_past m.0.held n (let w = was.held in omega arith)))
      (λ below. let o = was.nodes n (omega arith) own in renewed_at 0 m.0.held (graph_after (graph_of m.0.held) t) n o.0 o.1
      ∙ ap (λ (x : Node). some (Some x)) (ap (node_at (graph_after (graph_of m.0.held) t))
      (let z : 0 + n ≡ n = omega arith in z) ∙ outside (graph_of m.0.held) t n (sym (among n) ∙ e)
      ∙ graph_at m.0.held n o.0 o.1)
      ∙ sym o.1)

  abbrev placed : ℕ → Sat
  placed place = (placing m.0 place r, m.1)

  pub start_orderly : (place : ℕ) (m1 : Sat) → m1 ≡ placed place → IsOrderly size (naming m1 m.0.held)
  start_orderly place m1 is = subst (λ (z : Sat). IsOrderly size (naming z m.0.held)) (sym is) (orderly_still was refl refl was.apart (λ k. refl))

  end_placed : (place : ℕ) (slots : List (ℕ × Cell)) → IsChanged size m.0.held after ns (placing m.0 place r, slots)
      → IsOrderly size (placing m.0 place r, slots)
  end_placed place slots is = orderly_named is.orderly refl (renewed_long 0 m.0.held (graph_after (graph_of m.0.held) t) ∙ was.held ∙ sym is.orderly.held)
      (λ n low own. ⊎_elim (λ e. named_after n e ∙ sym (is.named n e))
      (λ e. named_else n e own ∙ sym (is.others n e)) (true_or_false (is_among n ns))) refl is.orderly.apart (λ k. refl)

  pub end_orderly : (place : ℕ) (m1 m2 : Sat) → m1 ≡ placed place → m2.0 ≡ m1.0 → IsChanged size m.0.held after ns m2 → IsOrderly size m2
  end_orderly place m1 m2 is view changed = let v : m2.0 ≡ placing m.0 place r = view ∙ ap (λ (z : Sat). z.0) is in
      subst (λ (w : Sight). IsOrderly size (w, m2.1)) (sym v)
      (end_placed place m2.1 (subst (λ (w : Sight). IsChanged size m.0.held after ns (w, m2.1)) v changed))

  pub has_committed : (place : ℕ) (m1 m2 : Sat) → m1 ≡ placed place → m2.0 ≡ m1.0
      → AllByRecursion (λ p. p.0 < place) m.0.part.own → HasCommitted m place r after ns m2
  has_committed place m1 m2 is view above = let v : m2.0 ≡ placing m.0 place r = view ∙ ap (λ (z : Sat). z.0) is in record {
    now = ap (λ (w : Sight). let a : Account = record (account_of (w, m2.1)) { held = m2.0.held } in a) v;
    above = above;
    named = λ n e. ap (λ (w : Sight). get_elem? w.held n) v ∙ named_after n e;
    others = λ n e own. ap (λ (w : Sight). get_elem? w.held n) v ∙ named_else n e own;
  }

  pub still_away : (place : ℕ) (m1 m2 : Sat) → m1 ≡ placed place → m2.0 ≡ m1.0 → IsAway m.0.part.core → IsAway m2.0.part.core
  still_away place m1 m2 is view away = let v : m2.0 ≡ placing m.0 place r = view ∙ ap (λ (z : Sat). z.0) is in
      subst (λ (w : Sight). IsAway w.part.core) (sym v) away

-- ---- of a seat as its caller has it

-- what the caller says, of the seat itself
pub may_commit : {b : Board} {r : Record} {before : List Node} {changes : List NodeChange} (q : Stepper) {s : Standing} → standing_of q ≡ s
    → MayCommit b r before changes s → MayCommit b r before changes (standing_of q)
may_commit {b} {r} {before} {changes} q is may = subst (MayCommit b r before changes) (sym is) may

-- there is room for one record fewer
pub less_room : {t : TableId} {q q' : Stepper} (place : ℕ) (r : Record) → IsSeated t q → IsSeated t q'
    → q'.seat.me.0.part.own ≡ q.seat.me.0.part.own ++ (place, r) ∷ [] → vec_capacity q'.records ≡ vec_capacity q.records
    → standing_of q' ≡ record (standing_of q) { room = (standing_of q).room - 1; me = q'.seat.me }
less_room {q} {q'} place r seated seated' own capacity =
    let many : length q'.records.items ≡ length q.records.items + 1 = ap length (seated'.records ∙ own)
    ∙ length-append q.seat.me.0.part.own ((place, r) ∷ []) ∙ ap (λ (l : List (ℕ × Record)). length l + 1) (sym seated.records) in
    let room : vec_capacity q'.records - vec_len q'.records ≡ vec_capacity q.records - vec_len q.records - 1 = omega (arith, many, capacity) in
    let home : q'.seat.table_id ≡ q.seat.table_id = seated'.home ∙ sym seated.home in
    λ i. record { home = home i; room = room i; me = q'.seat.me }
