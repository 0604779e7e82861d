-- What the steps of a seat keep of what it has out.
use Rattle.std.proofs.Common.{◌≡◌, ◌≢◌, ℕ, suc, ◌+◌, ◌-◌, ◌<◌, ◌≤◌, inl, inr, ⊎_elim, false, true≢false, List, ◌∷◌, length, get_or, slice_set, sym, ap, ◌∙◌, subst, arith, Some, None, length-set}
use mathlib.Core.Logic.{dite}
use native.Mathlib.Decide.{ℕ_discrete}
use lib.ListN.{get_elem?}
use Rattle.atomic_table.proofs.Lists.{set_else}
use Rattle.ww_queue.specs.declared.entry.Entry.{Entry}
use Rattle.ww_plain.specs.declared.node.Node.{Node}
use Rattle.ww_invariant.specs.declared.cells.Cell.{Cell}
use Rattle.ww_invariant.specs.declared.cells.Cell.TheVariants.{Content, Line}
use Rattle.ww_invariant.specs.declared.cells.Sight.{Sight}
use Rattle.ww_invariant.specs.Rule.{Sat}
use Rattle.ww_invariant.specs.Out.{slot_of, AreOthers}
use Rattle.ww_invariant.specs.Guards.{AreSeats, StandsAs, entering, exiting}
use Rattle.ww_table.specs.Inside.{HasListThen}
use Rattle.ww_seat.specs.Orderly.{AreApart, IsOrderly}
use Rattle.ww_seat.proofs.Slots.{slot_here, slot_else, others_gone, others_else, others_apart, front_apart, front_else}
use Rattle.ww_seat.proofs.Outside.{Outs, outs_of, owns_here, owns_else}

-- ---- into the guard and out of it

-- outside, a slot that is out is that of a node
pub low_outside : {size : ℕ} {m : Sat} → IsOrderly size m → m.0.part.core.inside ≡ 0 → (n : ℕ) → 64 ≤ n → slot_of m.1 n ≡ None
low_outside {m} o outside n high = let e : 64 + (n - 64) ≡ n = omega arith in ap (slot_of m.1) (sym e)
    ∙ o.lists (n - 64) (λ z. let y = sym outside ∙ z in omega arith)

-- the seat went inside, and found this wait list there
pub record HasEntered (m : Sat) (n : ℕ) (m' : Sat) : Type 0 where
  pub list : List Entry
  pub seats : AreSeats m.0.part.core.seats list
  pub stands : StandsAs m.0.part.core n list
  pub view : m'.0 ≡ entering m.0 n list

pub entering_orderly : {size : ℕ} {m m' : Sat} {n : ℕ} {q : List Entry} → IsOrderly size m → m.0.part.core.inside ≡ 0
    → m' ≡ (entering m.0 n q, (64 + n, Line q) ∷ m.1) → IsOrderly size m'
entering_orderly {size} {m} {n} {q} o outside is = subst (IsOrderly size) (sym is) (record {
  few = o.few;
  owned = o.owned;
  held = o.held;
  apart = (low_outside o outside (64 + n) (omega arith), o.apart);
  nodes = λ k small own. let z = o.nodes k small own in let few = o.few in
      (z.0, z.1, slot_else (64 + n) (Line q) m.1 k (λ e. absurd (omega arith)) ∙ z.2);
  others = λ k small isnt. slot_else (64 + n) (Line q) m.1 k (λ e. absurd (omega arith)) ∙ o.others k small isnt;
  list = λ k e. let at : k ≡ n = omega arith in ap (λ (j : ℕ). slot_of ((64 + n, Line q) ∷ m.1) (64 + j)) at ∙ slot_here (64 + n) (Line q) m.1;
  lists = λ k isnt. slot_else (64 + n) (Line q) m.1 (64 + k) (λ e. isnt (omega arith)) ∙ low_outside o outside (64 + k) (omega arith);
  unheeded = o.unheeded;
})

pub exiting_orderly : {size : ℕ} {m m' : Sat} {n : ℕ} → IsOrderly size m → m.0.part.core.inside ≡ suc n → m'.0 ≡ exiting m.0
    → AreOthers m.1 (64 + n) (Line m.0.part.core.list) m'.1 → IsOrderly size m'
exiting_orderly {size} {m'} {n} o inside view home = let same = others_else o.apart home in
    subst (λ (w : Sight). IsOrderly size (w, m'.1)) (sym view) (record {
      few = o.few;
      owned = o.owned;
      held = o.held;
      apart = others_apart o.apart home;
      nodes = λ k small own. let z = o.nodes k small own in let few = o.few in (z.0, z.1, same k (λ e. absurd (omega arith)) ∙ z.2);
      others = λ k small isnt. same k (λ e. absurd (omega arith)) ∙ o.others k small isnt;
      list = λ k e. absurd (omega arith);
      lists = λ k _. dite (ℕ_discrete k n) (λ is. ap (λ (j : ℕ). slot_of m'.1 (64 + j)) is ∙ others_gone o.apart home)
          (λ isnt. same (64 + k) (λ e. isnt (omega arith)) ∙ o.lists k (λ e. isnt (omega arith)));
      unheeded = o.unheeded;
    })

-- ---- inside

-- the wait list is out as the view has it now, and all else as before
pub listed_among : {size n : ℕ} {m : Sat} {w : Sight} {slots : List (ℕ × Cell)} → IsOrderly size m → m.0.part.core.inside ≡ suc n
    → outs_of w ≡ outs_of m.0 → AreApart slots → ((k : ℕ) → k ≢ 64 + n → slot_of slots k ≡ slot_of m.1 k)
    → slot_of slots (64 + n) ≡ Some (Line w.part.core.list) → IsOrderly size (w, slots)
listed_among {n} {w} {slots} o in_guard outs apart same here =
    let owned = ap (λ (z : Outs). z.owned) outs in let inside = ap (λ (z : Outs). z.inside) outs in record {
      few = o.few;
      owned = omega (arith, o.owned, ap length owned);
      held = ap (λ (z : Outs). length z.held) outs ∙ o.held;
      apart = apart;
      nodes = λ k small own. let z = o.nodes k small (sym (ap (λ xs. get_or xs k false) owned) ∙ own) in let few = o.few in
          (z.0, ap (λ (x : Outs). get_elem? x.held k) outs ∙ z.1, same k (λ e. absurd (omega arith)) ∙ z.2);
      others = λ k small isnt. same k (λ e. absurd (omega arith))
          ∙ o.others k small (⊎_elim (λ big. inl big) (λ lacks. inr (sym (ap (λ xs. get_or xs k false) owned) ∙ lacks)) isnt);
      list = λ k e. let at : n ≡ k = omega arith in subst (λ (j : ℕ). slot_of slots (64 + j) ≡ Some (Line w.part.core.list)) at here;
      lists = λ k isnt. same (64 + k) (λ e. isnt (omega arith)) ∙ o.lists k (λ e. isnt (inside ∙ e));
      unheeded = ap (λ (z : Outs). z.heeded) outs ∙ o.unheeded;
    }

-- ... on top
pub listed_orderly : {size n : ℕ} {m : Sat} {w : Sight} {others : List (ℕ × Cell)} → IsOrderly size m → m.0.part.core.inside ≡ suc n
    → AreOthers m.1 (64 + n) (Line m.0.part.core.list) others → outs_of w ≡ outs_of m.0
    → IsOrderly size (w, (64 + n, Line w.part.core.list) ∷ others)
listed_orderly {n} {w} {others} o inside out outs = let y : Cell = Line w.part.core.list in
    listed_among o inside outs (front_apart o.apart out y) (front_else o.apart out y) (slot_here (64 + n) y others)

-- ... after such a step
pub listed_by : {size n : ℕ} {m m' : Sat} {w : Sight} → IsOrderly size m → m.0.part.core.inside ≡ suc n
    → HasListThen m n w w.part.core.list m' → outs_of w ≡ outs_of m.0 → IsOrderly size m'
listed_by {size} o inside got outs = subst (IsOrderly size) (sym got.2) (listed_orderly o inside got.1 outs)

-- a node went home, and its lock is released
pub without_node : {size : ℕ} {m : Sat} {n : ℕ} {x : Node} {w : Sight} {slots : List (ℕ × Cell)} → IsOrderly size m → n < size
    → AreOthers m.1 n (Content x) slots
    → outs_of w ≡ record (outs_of m.0) { owned = slice_set m.0.part.core.owned n false; held = slice_set m.0.held n None }
    → w.part.core.list ≡ m.0.part.core.list → IsOrderly size (w, slots)
without_node {m} {n} {w} {slots} o small home outs list = let same = others_else o.apart home in let few = o.few in let long = o.owned in
    let owned : w.part.core.owned ≡ slice_set m.0.part.core.owned n false = ap (λ (z : Outs). z.owned) outs in
    let held : w.held ≡ slice_set m.0.held n None = ap (λ (z : Outs). z.held) outs in
    let inside : w.part.core.inside ≡ m.0.part.core.inside = ap (λ (z : Outs). z.inside) outs in
    let gone : get_or w.part.core.owned n false ≡ false = ap (λ xs. get_or xs n false) owned
    ∙ owns_here m.0.part.core.owned n false (omega arith) in
    let kept : (k : ℕ) → k ≢ n → get_or w.part.core.owned k false ≡ get_or m.0.part.core.owned k false =
    λ k isnt. ap (λ xs. get_or xs k false) owned ∙ owns_else m.0.part.core.owned n false k isnt in record {
      few = o.few;
      owned = omega (arith, o.owned, ap length owned, length-set m.0.part.core.owned n false);
      held = ap length held ∙ length-set m.0.held n None ∙ o.held;
      apart = others_apart o.apart home;
      nodes = λ k in_graph own. dite (ℕ_discrete k n)
          (λ is. absurd (true≢false (sym own ∙ ap (λ (j : ℕ). get_or w.part.core.owned j false) is ∙ gone)))
          (λ isnt. let z = o.nodes k in_graph (sym (kept k isnt) ∙ own) in
          (z.0, ap (λ xs. get_elem? xs k) held ∙ set_else m.0.held n k None isnt ∙ z.1, same k isnt ∙ z.2));
      others = λ k low own. dite (ℕ_discrete k n) (λ is. ap (slot_of slots) is ∙ others_gone o.apart home)
          (λ isnt. same k isnt ∙ o.others k low (⊎_elim (λ big. inl big) (λ lacks. inr (sym (kept k isnt) ∙ lacks)) own));
      list = λ k e. same (64 + k) (λ z. omega arith) ∙ o.list k (sym inside ∙ e) ∙ ap (λ (q : List Entry). Some (Line q)) (sym list);
      lists = λ k isnt. same (64 + k) (λ z. omega arith) ∙ o.lists k (λ e. isnt (inside ∙ e));
      unheeded = ap (λ (z : Outs). z.heeded) outs ∙ o.unheeded;
    }
