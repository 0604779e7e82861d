-- Each step outside a guard keeps that what is out fits the view.
use Rattle.std.proofs.Common.{◌≡◌, ◌≢◌, ℕ, zero, suc, ◌-◌, ◌<◌, ◌≤◌, ltb, inl, inr, ⊎_elim, Bool, true, false, true≢false, List, [], ◌∷◌, length, get_or, set, refl, sym, ap, ◌∙◌, subst, arith, Option, Some, None, length-set, get_or-set_same, get_or-set_other}
use Rattle.std.proofs.lemmas.Bool.{lt-ltb}
use mathlib.Core.Logic.{dite}
use mathlib.Core.Option.{some}
use native.Mathlib.Decide.{ℕ_discrete, dec_le}
use lib.ListN.{get_elem?}
use Rattle.atomic_table.proofs.Lists.{set_here, set_else}
use Rattle.ww_plain.specs.declared.node.Node.{Node}
use Rattle.ww_plain.proofs.Members.{true_or_false}
use Rattle.ww_view.specs.declared.view.View.{View}
use Rattle.ww_model.specs.State.{any_below}
use Rattle.ww_model.proofs.Slots.{below_found, found_below}
use Rattle.ww_view.specs.View.{owns, IsBare}
use Rattle.ww_invariant.specs.declared.cells.Cell.{Cell}
use Rattle.ww_invariant.specs.declared.cells.Cell.TheVariants.{Content, Line}
use Rattle.ww_invariant.specs.Layout.{list_at}
use Rattle.ww_invariant.specs.Rule.{Sat}
use Rattle.ww_invariant.specs.Out.{slot_of, AreOthers}
use Rattle.ww_invariant.specs.Steps.{knowing, taking}
use Rattle.ww_seat.specs.Orderly.{AreApart, IsOrderly}
use Rattle.ww_invariant.specs.declared.cells.Sight.{Sight}
use Rattle.ww_seat.proofs.Slots.{slot_here, not_both, same_cell, same_node, others_had, slot_else, front_apart, front_else, front_same, few_slots, fewer_beside}

-- ---- what stays

-- which locks a seat owns, which nodes its view names, and where it is: what is out fits these
pub record Outs : Type 0 where
  pub owned : List Bool
  pub held : List (Option Node)
  pub inside : ℕ
  pub heeded : ℕ

abbrev pub outs_of : Sight → Outs
outs_of v = record { owned = v.part.core.owned; held = v.held; inside = v.part.core.inside; heeded = v.part.core.heeded }

-- they are the same but for what the view names, which is the same of each node whose lock the seat owns, as are the wait list and what
-- the slots have: their order may be another
pub orderly_named : {size : ℕ} {m m' : Sat} → IsOrderly size m → outs_of m'.0 ≡ record (outs_of m.0) { held = m'.0.held }
    → length m'.0.held ≡ length m.0.held → ((n : ℕ) → n < size → owns m.0.part.core n ≡ true → get_elem? m'.0.held n ≡ get_elem? m.0.held n)
    → m'.0.part.core.list ≡ m.0.part.core.list → AreApart m'.1 → ((k : ℕ) → slot_of m'.1 k ≡ slot_of m.1 k) → IsOrderly size m'
orderly_named {m} {m'} was outs long named list apart slots =
    let owned : m'.0.part.core.owned ≡ m.0.part.core.owned = ap (λ (z : Outs). z.owned) outs in
    let inside : m'.0.part.core.inside ≡ m.0.part.core.inside = ap (λ (z : Outs). z.inside) outs in record {
      few = was.few;
      owned = omega (arith, was.owned, ap (λ (l : List Bool). length l) owned);
      held = long ∙ was.held;
      apart = apart;
      nodes = λ n low own. let old = ap (λ (l : List Bool). get_or l n false) (sym owned) ∙ own in
          let t = was.nodes n low old in (t.0, named n low old ∙ t.1, slots n ∙ t.2);
      others = λ n small why. slots n ∙ was.others n small
          (⊎_elim (λ big. inl big) (λ lacks. inr (ap (λ (l : List Bool). get_or l n false) (sym owned) ∙ lacks)) why);
      list = λ n is. slots (list_at n) ∙ was.list n (sym inside ∙ is) ∙ ap (λ q. Some (Line q)) (sym list);
      lists = λ n isnt. slots (list_at n) ∙ was.lists n (λ is. isnt (inside ∙ is));
      unheeded = ap (λ (z : Outs). z.heeded) outs ∙ was.unheeded;
    }

-- ... and the view names the same
pub orderly_still : {size : ℕ} {m m' : Sat} → IsOrderly size m → outs_of m'.0 ≡ outs_of m.0 → m'.0.part.core.list ≡ m.0.part.core.list
    → AreApart m'.1 → ((k : ℕ) → slot_of m'.1 k ≡ slot_of m.1 k) → IsOrderly size m'
orderly_still {m'} was outs = orderly_named was (ap (λ (z : Outs). record z { held = m'.0.held }) outs)
    (ap (λ (z : Outs). length z.held) outs) (λ n _ _. ap (λ (z : Outs). get_elem? z.held n) outs)

-- a step that leaves the slots as they are
pub orderly_knowing : {size : ℕ} {m m' : Sat} {w : View} → IsOrderly size m → m' ≡ (knowing m.0 w, m.1) → outs_of (knowing m.0 w) ≡ outs_of m.0
    → w.list ≡ m.0.part.core.list → IsOrderly size m'
orderly_knowing {size} was is outs list = subst (IsOrderly size) (sym is) (orderly_still was outs list was.apart (λ k. refl))

-- a slot that was only brought to the front
pub orderly_brought : {size : ℕ} {m m' : Sat} {n : ℕ} {y : Cell} {others : List (ℕ × Cell)} → IsOrderly size m → AreOthers m.1 n y others
    → m' ≡ (m.0, (n, y) ∷ others) → IsOrderly size m'
orderly_brought {size} {y} was are is = subst (IsOrderly size) (sym is) (orderly_still was refl refl
    (front_apart was.apart are y) (front_same was.apart are))

-- ---- which locks it owns

pub owns_here : (owned : List Bool) (n : ℕ) (b : Bool) → n < length owned → get_or (set owned n b) n false ≡ b
owns_here owned n b small = get_or-set_same owned n b false small

pub owns_else : (owned : List Bool) (n : ℕ) (b : Bool) (k : ℕ) → k ≢ n → get_or (set owned n b) k false ≡ get_or owned k false
owns_else owned n b k isnt = get_or-set_other owned n k b false isnt

-- ---- a lock taken, or released

module _ (size : ℕ) (m : Sat) (n : ℕ) (x : Node) (was : IsOrderly size m) (low : n < size) where
  small : n < length m.0.part.core.owned
  small = let b = was.owned in omega arith

  taken_orderly : owns m.0.part.core n ≡ false → IsOrderly size (taking m.0 n x, (n, Content x) ∷ m.1)
  taken_orderly lacks = let few = was.few in record {
    few = was.few;
    owned = omega (arith, was.owned, length-set m.0.part.core.owned n true);
    held = length-set m.0.held n (Some x) ∙ was.held;
    apart = (was.others n (omega arith) (inr lacks), was.apart);
    nodes = λ k in_graph own. dite (ℕ_discrete k n)
        (λ is. subst (λ (j : ℕ). (z : Node) × (get_elem? (set m.0.held n (Some x)) j ≡ some (Some z))
        × (slot_of ((n, Content x) ∷ m.1) j ≡ Some (Content z))) (sym is)
        (x, set_here m.0.held n (Some x) (let h = was.held in omega arith), slot_here n (Content x) m.1))
        (λ isnt. let t = was.nodes k in_graph (sym (owns_else m.0.part.core.owned n true k isnt) ∙ own) in
        (t.0, set_else m.0.held n k (Some x) isnt ∙ t.1, slot_else n (Content x) m.1 k isnt ∙ t.2));
    others = λ k less why. dite (ℕ_discrete k n)
        (λ is. ⊎_elim (λ big. absurd (omega arith))
        (λ own. absurd (true≢false (sym (owns_here m.0.part.core.owned n true small)
        ∙ ap (λ (j : ℕ). get_or (set m.0.part.core.owned n true) j false) (sym is) ∙ own))) why)
        (λ isnt. slot_else n (Content x) m.1 k isnt
        ∙ was.others k less (⊎_elim (λ big. inl big)
        (λ own. inr (sym (owns_else m.0.part.core.owned n true k isnt) ∙ own)) why));
    list = λ k is. slot_else n (Content x) m.1 (list_at k) (λ e. absurd (omega arith)) ∙ was.list k is;
    lists = λ k isnt. slot_else n (Content x) m.1 (list_at k) (λ e. absurd (omega arith)) ∙ was.lists k isnt;
    unheeded = was.unheeded;
  }

  -- its node is written, and the view names what was written
  swapped_orderly : (y : Node) (others : List (ℕ × Cell)) → owns m.0.part.core n ≡ true
      → AreOthers m.1 n (Content x) others
      → IsOrderly size (record (m.0) { held = set m.0.held n (Some y) }, (n, Content y) ∷ others)
  swapped_orderly y others owner are = let few = was.few in record {
    few = was.few;
    owned = was.owned;
    held = length-set m.0.held n (Some y) ∙ was.held;
    apart = front_apart was.apart are (Content y);
    nodes = λ k in_graph own. dite (ℕ_discrete k n)
        (λ is. subst (λ (j : ℕ). (z : Node) × (get_elem? (set m.0.held n (Some y)) j ≡ some (Some z))
        × (slot_of ((n, Content y) ∷ others) j ≡ Some (Content z))) (sym is)
        (y, set_here m.0.held n (Some y) (let h = was.held in omega arith), slot_here n (Content y) others))
        (λ isnt. let t = was.nodes k in_graph own in (
          t.0,
          set_else m.0.held n k (Some y) isnt
              ∙ t.1,
          front_else was.apart are (Content y) k isnt ∙ t.2,
        ));
    others = λ k less why. dite (ℕ_discrete k n)
        (λ is. ⊎_elim (λ big. absurd (omega arith))
        (λ own. absurd (true≢false (sym owner ∙ ap (λ (j : ℕ). get_or m.0.part.core.owned j false) (sym is)
        ∙ own))) why) (λ isnt. front_else was.apart are (Content y) k isnt ∙ was.others k less why);
    list = λ k is. front_else was.apart are (Content y) (list_at k) (λ e. absurd (omega arith)) ∙ was.list k is;
    lists = λ k isnt. front_else was.apart are (Content y) (list_at k) (λ e. absurd (omega arith)) ∙ was.lists k isnt;
    unheeded = was.unheeded;
  }

pub orderly_taken : {size : ℕ} {m m' : Sat} {n : ℕ} {x : Node} → IsOrderly size m → n < size → owns m.0.part.core n ≡ false
    → m' ≡ (taking m.0 n x, (n, Content x) ∷ m.1) → IsOrderly size m'
orderly_taken {size} {m} {n} {x} was low lacks is = subst (IsOrderly size) (sym is) (taken_orderly size m n x was low lacks)

pub orderly_swapped : {size : ℕ} {m m' : Sat} {n : ℕ} {x y : Node} {others : List (ℕ × Cell)} → IsOrderly size m → n < size
    → owns m.0.part.core n ≡ true → AreOthers m.1 n (Content x) others
    → m' ≡ (record (m.0) { held = set m.0.held n (Some y) }, (n, Content y) ∷ others) → IsOrderly size m'
orderly_swapped {size} {m} {n} {x} {y} {others} was low owner are is =
    subst (IsOrderly size) (sym is) (swapped_orderly size m n x was low y others owner are)

-- ---- what the steps ask

pub high_list : (n : ℕ) → 64 ≤ n → (k : ℕ) × (n ≡ list_at k)
high_list n high = (n - 64, omega arith)

-- outside every guard at most all nodes are out
pub room_outside : {size : ℕ} {m : Sat} → IsOrderly size m → m.0.part.core.inside ≡ 0 → length m.1 < 65
room_outside {m} was outside = let f =
    few_slots 64 m.1 was.apart (λ n high. let k = high_list n high in ap (slot_of m.1) k.1
    ∙ was.lists k.0 (λ is. absurd (omega arith))) in omega arith

lists_else : {size : ℕ} {m : Sat} {n : ℕ} → IsOrderly size m → m.0.part.core.inside ≡ suc n → (j : ℕ) → 64 ≤ j → j ≢ list_at n
    → slot_of m.1 j ≡ None
lists_else {m} {n} was inside j high isnt = let k = high_list j high in ap (slot_of m.1) k.1
    ∙ was.lists k.0 (λ is. isnt (k.1 ∙ ap list_at (let z : k.0 ≡ n = omega arith in z)))

-- inside the guard of a lock that it lacks there is room for its node
pub room_inside : {size : ℕ} {m : Sat} {n : ℕ} → IsOrderly size m → n < size → m.0.part.core.inside ≡ suc n → owns m.0.part.core n ≡ false
    → length m.1 < 65
room_inside {m} {n} was low inside lacks = let few = was.few in
    fewer_beside 64 m.1 (list_at n) n was.apart (was.list n inside) (omega arith)
    (lists_else was inside) (omega arith) (was.others n (omega arith) (inr lacks))

-- what is set behind the end of a list leaves it
pub set_past : {A : Type 0} (xs : List A) (n : ℕ) (x : A) → length xs ≤ n → set xs n x ≡ xs
set_past [] n x past = refl
set_past (y ∷ ys) zero x past = absurd (omega arith)
set_past (y ∷ ys) (suc n) x past = ap (λ l. y ∷ l) (set_past ys n x (omega arith))

-- ---- a lock taken, or released, that guards no node: what is out stays

pub orderly_bare : {size : ℕ} {m : Sat} (n : ℕ) (b : Bool) {w : View} → IsOrderly size m → size ≤ n
    → outs_of (knowing m.0 w) ≡ record (outs_of m.0) { owned = set m.0.part.core.owned n b } → w.list ≡ m.0.part.core.list
    → IsOrderly size (knowing m.0 w, m.1)
orderly_bare {size} {m} n b {w} was big outs list =
    let owned : w.owned ≡ set m.0.part.core.owned n b = ap (λ (z : Outs). z.owned) outs in
    let inside : w.inside ≡ m.0.part.core.inside = ap (λ (z : Outs). z.inside) outs in
    let else_ : (k : ℕ) → k < size → get_or w.owned k false ≡ get_or m.0.part.core.owned k false =
    λ k low. ap (λ (l : List Bool). get_or l k false) owned ∙ owns_else m.0.part.core.owned n b k (λ e. absurd (omega arith)) in record {
      few = was.few;
      owned = omega (arith, was.owned, ap (λ (l : List Bool). length l) owned, length-set m.0.part.core.owned n b);
      held = was.held;
      apart = was.apart;
      nodes = λ k low own. was.nodes k low (sym (else_ k low) ∙ own);
      others = λ k less why. was.others k less (⊎_elim (λ high. inl high) (λ lacks. dite (dec_le size k) (λ high. inl high)
          (λ low. inr (sym (else_ k (omega arith)) ∙ lacks))) why);
      list = λ k is. was.list k (sym inside ∙ is) ∙ ap (λ q. Some (Line q)) (sym list);
      lists = λ k isnt. was.lists k (λ is. isnt (inside ∙ is));
      unheeded = ap (λ (z : Outs). z.heeded) outs ∙ was.unheeded;
    }

-- ---- whether it holds a lock

pub owned_low : (xs : List Bool) (n : ℕ) → get_or xs n false ≡ true → n < length xs
owned_low [] n own = absurd (true≢false (sym own))
owned_low (x ∷ xs) zero own = omega arith
owned_low (x ∷ xs) (suc n) own = let z = owned_low xs n own in omega arith

pub owner_of_some : (v : View) → any_below (length v.owned) (owns v) ≡ true → (n : ℕ) × (owns v n ≡ true)
owner_of_some v has = let f = below_found (length v.owned) (owns v) has in (f.0, f.2)

pub bare_of_none : (v : View) → any_below (length v.owned) (owns v) ≡ false → IsBare v
bare_of_none v none n = ⊎_elim
    (λ own. absurd (true≢false (sym (found_below (length v.owned) (owns v) n (owned_low v.owned n own) own) ∙ none)))
    (λ lacks. lacks)
    (true_or_false (owns v n))

-- ---- a node that it reads

-- it is the one that its view names
pub node_read : {size n : ℕ} {m m' : Sat} {r : Node} → IsOrderly size m → n < size → owns m.0.part.core n ≡ true
    → (got : (others : List (ℕ × Cell)) × AreOthers m.1 n (Content r) others × (m' ≡ (m.0, (n, Content r) ∷ others)))
    → IsOrderly size m' × (get_elem? m.0.held n ≡ some (Some r))
node_read {n} {r} o low own got =
    let at = o.nodes n low own in
    let same : at.0 ≡ r = same_node at.0 r (same_cell at.2 (others_had o.apart got.1)) in
    (orderly_brought o got.1 got.2, at.1 ∙ ap (λ (y : Node). some (Some y)) same)

-- outside every guard what is out is the node of a lock that it owns
pub owner_of_first : {size : ℕ} {m : Sat} (n : ℕ) (y : Cell) (others : List (ℕ × Cell)) → IsOrderly size m → m.0.part.core.inside ≡ 0
    → m.1 ≡ (n, y) ∷ others → owns m.0.part.core n ≡ true
owner_of_first {m} n y others was outside out = ⊎_elim (λ own. own) (λ lacks. absurd (not_both (dite (dec_le 64 n)
    (λ high. let k = high_list n high in ap (slot_of m.1) k.1 ∙ was.lists k.0 (λ is. absurd (omega arith)))
    (λ small. was.others n (omega arith) (inr lacks))) (ap (λ (l : List (ℕ × Cell)). slot_of l n) out ∙ slot_here n y others)))
    (true_or_false (owns m.0.part.core n))

-- a seat that owns none has nothing out
pub nothing_out : (size : ℕ) (m : Sat) → IsOrderly size m → m.0.part.core.inside ≡ 0 → IsBare m.0.part.core → m.1 ≡ []
nothing_out size m was outside bare = go m.1 refl
  where
    go : (slots : List (ℕ × Cell)) → m.1 ≡ slots → slots ≡ []
    go [] out = refl
    go (x ∷ xs) out = absurd (true≢false (sym (owner_of_first x.0 x.1 xs was outside out) ∙ bare x.0))

-- so where each lock that it owns guards a node, it owns one just where something is out
pub holds_outside : {size : ℕ} {m : Sat} → IsOrderly size m → m.0.part.core.inside ≡ 0 → ((n : ℕ) → owns m.0.part.core n ≡ true → n < size)
    → any_below (length m.0.part.core.owned) (owns m.0.part.core) ≡ ltb 0 (length m.1)
holds_outside {m} was outside low = go m.1 refl
  where
    go : (slots : List (ℕ × Cell)) → m.1 ≡ slots → any_below (length m.0.part.core.owned) (owns m.0.part.core) ≡ ltb 0 (length slots)
    go [] out = ⊎_elim (λ some. let f = owner_of_some m.0.part.core some in let node = was.nodes f.0 (low f.0 f.1) f.1 in
        absurd (not_both (ap (λ (l : List (ℕ × Cell)). slot_of l f.0) out) node.2)) (λ none. none)
        (true_or_false (any_below (length m.0.part.core.owned) (owns m.0.part.core)))
    go (x ∷ xs) out = let own = owner_of_first x.0 x.1 xs was outside out in
        found_below (length m.0.part.core.owned) (owns m.0.part.core) x.0 (owned_low m.0.part.core.owned x.0 own)
        own ∙ sym (lt-ltb 0 (length (x ∷ xs)) (omega arith))
