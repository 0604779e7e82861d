-- A lock taken at once, by a seat that may have taken its sign back just before.
use Rattle.std.proofs.Common.{◌≡◌, ℕ, ◌<◌, ◌≤◌, Bool, true, false, List, ◌∷◌, length, get_or, Some, refl, sym, ap, ◌∙◌, subst, arith}
use Rattle.ww_plain.specs.declared.node.Node.{Node}
use Rattle.ww_model.specs.State.{any_below}
use Rattle.ww_model.proofs.Slots.{found_below}
use Rattle.ww_plain.specs.Graph.{IsNodeOf, no_node}
use Rattle.ww_view.specs.View.{owns, IsAway}
use Rattle.ww_view.specs.May.{WantsSigns}
use Rattle.ww_invariant.specs.declared.cells.Cell.{Cell}
use Rattle.ww_invariant.specs.declared.cells.Cell.TheVariants.{Content}
use Rattle.ww_invariant.specs.declared.cells.Sight.{Sight}
use Rattle.ww_invariant.specs.Rule.{Sat}
use Rattle.ww_invariant.specs.Out.{AreOthers, slot_of}
use Rattle.ww_invariant.specs.Steps.{knowing, taking}
use Rattle.ww_view.specs.Made.{fast_taken}
use Rattle.ww_table.specs.Seat.{HasTriedToTake}
use Rattle.ww_table.specs.declared.seat.Taking.{Taking}
use Rattle.ww_table.specs.declared.seat.Taking.TheVariants.{Took, Had, Missed}
use Rattle.ww_seat.specs.Orderly.{IsOrderly}
use Rattle.ww_seat.specs.Accounts.{Account, account_of, having_tried}
use Rattle.ww_seat.specs.Calls.{HasAdded, HasTakenAtOnce, HasTriedOnce, HoldsAsBefore}
use Rattle.ww_seat.proofs.Slots.{slot_here, same_cell, same_node, others_had}
use Rattle.ww_seat.proofs.Outside.{orderly_taken, orderly_brought, orderly_bare, orderly_knowing, owned_low, set_past}

-- the lock was won with a node, which was then read
pub record IsWon (n : ℕ) (m m' : Sat) : Type 0 where
  pub node : Node
  pub fits : IsNodeOf (length m.0.held) node
  pub now : m' ≡ (taking m.0 n node, (n, Content node) ∷ m.1)

pub record IsRead (n : ℕ) (y : Node) (m m' : Sat) : Type 0 where
  pub others : List (ℕ × Cell)
  pub are : AreOthers m.1 n (Content y) others
  pub now : m' ≡ (m.0, (n, Content y) ∷ others)

pub record IsTaken (size n : ℕ) (y : Node) (m m' : Sat) : Type 0 where
  pub orderly : IsOrderly size m'
  pub taken : HasTakenAtOnce m n y m'
  pub inside : m'.0.part.core.inside ≡ m.0.part.core.inside
  pub waits : m'.0.part.core.waits ≡ m.0.part.core.waits

-- the view names one lock more, and this node
taken_by : {size : ℕ} (n : ℕ) (y : Node) (m : Sat) {now : Sat} → IsOrderly size now → IsNodeOf (length m.0.held) y → now.0 ≡ taking m.0 n y
    → IsTaken size n y m now
taken_by n y m {now} orderly fits view = record {
  orderly = orderly;
  taken = record {
    now = ap (λ (v : Sight). account_of (v, now.1)) view;
    node = fits;
    unmet = ap (λ v. v.part.core.met) view;
  };
  inside = ap (λ v. v.part.core.inside) view;
  waits = ap (λ v. v.part.core.waits) view;
}

pub taken_at_once : {size : ℕ} (n : ℕ) (y : Node) {m : Sat} (won now : Sat) → IsOrderly size m → n < size → owns m.0.part.core n ≡ false
    → IsWon n m won → IsRead n y won now → IsTaken size n y m now
taken_at_once n y {m} won now was low lacks w r =
    let orderly = orderly_taken was low lacks w.now in
    let had = others_had orderly.apart r.are in
    let same : w.node ≡ y = same_node w.node y (same_cell (ap (λ (z : Sat). slot_of z.1 n) w.now ∙ slot_here n (Content w.node) m.1) had) in
    taken_by n y m (orderly_brought orderly r.are r.now) (subst (IsNodeOf (length m.0.held)) same w.fits)
    (ap (λ (z : Sat). z.0) r.now ∙ ap (λ (z : Sat). z.0) w.now ∙ ap (taking m.0 n) same)

-- the lock was won, and guards no node
pub taken_bare_at_once : {size : ℕ} (n : ℕ) (y : Node) {m now : Sat} → IsOrderly size m → size ≤ n → IsNodeOf (length m.0.held) y
    → now ≡ (knowing m.0 (fast_taken m.0.part.core n), m.1) → IsTaken size n y m now
taken_bare_at_once {size} n y {m} was big fits is = let wide = was.held in
    taken_by n y m (subst (IsOrderly size) (sym is) (orderly_bare n true was big refl refl)) fits
    (ap (λ (z : Sat). z.0) is ∙ (λ i. record (m.0) {
      part = record (m.0.part) { core = fast_taken m.0.part.core n };
      held = sym (set_past m.0.held n (Some y) (omega arith)) i;
    }))

-- ---- one try, of which the lock's word tells whether the seat had the lock

pub tried_settled : {size : ℕ} (n : ℕ) {m : Sat} (m' : Sat) (a : Taking) → IsOrderly size m → IsAway m.0.part.core → size ≤ n
    → HasTriedToTake m n a m' → IsOrderly size m' × IsAway m'.0.part.core
tried_settled n m' Took o away big t = let z = taken_bare_at_once n no_node o big tt t.1 in
    (z.orderly, (z.inside ∙ away.0, z.waits ∙ away.1))
tried_settled {size} n m' Had o away big t = (subst (IsOrderly size) (sym t.1) o, subst (λ (z : Sat). IsAway z.0.part.core) (sym t.1) away)
tried_settled n m' Missed o away big t = (
  orderly_knowing o t.1 refl refl,
  subst (λ (z : Sat). IsAway z.0.part.core) (sym t.1) (away.0, away.1),
)

pub tried_once : {size : ℕ} (n : ℕ) {m : Sat} (m' : Sat) (a : Taking) → IsOrderly size m → size ≤ n → WantsSigns m.0.part.core
    → HasTriedToTake m n a m' → HasTriedOnce m n a m'
tried_once n m' Took o big signs t = (t.0, (taken_bare_at_once n no_node o big tt t.1).taken)
tried_once n m' Had o big signs t = t
tried_once n m' Missed o big signs t = record {
  lacks = t.0;
  tried = ap account_of t.1;
  met = ap (λ (z : Sat). z.0.part.core.met) t.1;
  glances = ap (λ (z : Sat). z.0.part.core.glances) t.1;
  signs = subst (λ (z : Sat). WantsSigns z.0.part.core) (sym t.1) signs;
}

-- m is the seat as it came, and u as it is once it may have taken its sign back
pub record IsReady (m u : Sat) (holds : Bool) : Type 0 where
  pub same : HoldsAsBefore m u
  pub met : u.0.part.core.met ≡ m.0.part.core.met
  pub idle : holds ≡ true → u ≡ m
  pub some : any_below (length m.0.part.core.owned) (owns m.0.part.core) ≡ holds

owned_alike : (m u : Sat) (n : ℕ) → HoldsAsBefore m u → owns m.0.part.core n ≡ owns u.0.part.core n
owned_alike m u n same = ap (λ (a : Account). get_or a.owned n false) (sym same)

pub tried_then : (n : ℕ) (m u m' : Sat) (holds : Bool) (a : Taking) → IsReady m u holds → HasTriedOnce u n a m' → HasTriedOnce m n a m'
tried_then n m u m' holds Took r t = (
  owned_alike m u n r.same ∙ t.0,
  subst (λ (a : Account). HasAdded (having_tried a) n no_node m') r.same t.1,
)
tried_then n m u m' holds Had r t = let own = owned_alike m u n r.same ∙ t.0 in (
  own,
  t.1 ∙ r.idle (sym r.some ∙ found_below (length m.0.part.core.owned) (owns m.0.part.core) n (owned_low m.0.part.core.owned n own) own),
)
tried_then n m u m' holds Missed r t = record {
  lacks = owned_alike m u n r.same ∙ t.lacks;
  tried = t.tried ∙ ap having_tried r.same;
  met = t.met ∙ r.met;
  glances = t.glances;
  signs = t.signs;
}
