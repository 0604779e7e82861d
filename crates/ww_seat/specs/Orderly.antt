-- What a seat has out, and how that fits what its view says.
use Rattle.std.specs.Prelude.{ℕ, suc, ◌≡◌, ◌≢◌, ◌<◌, ◌≤◌, ◌⊎◌, ◌∷◌, [], List, true, false, length, Some, None}
use mathlib.Core.Option.{some}
use lib.ListN.{get_elem?}
use Rattle.ww_plain.specs.declared.node.Node.{Node}
use Rattle.ww_view.specs.View.{owns}
use Rattle.ww_invariant.specs.declared.cells.Cell.{Cell}
use Rattle.ww_invariant.specs.declared.cells.Cell.TheVariants.{Content, Line}
use Rattle.ww_invariant.specs.Layout.{list_at}
use Rattle.ww_invariant.specs.Rule.{Sat}
use Rattle.ww_invariant.specs.Out.{slot_of}

-- no slot is out twice
abbrev pub AreApart : List (ℕ × Cell) → Type 0
AreApart [] = Unit {0}
AreApart (x ∷ xs) = (slot_of xs x.0 ≡ None) × AreApart xs

-- Out are the nodes of just the locks that the seat owns, of those that guard one, with the values that its view names,
-- and the wait list of the lock that it is inside of. It has heeded no cancel that it has yet to answer.
pub record IsOrderly (size : ℕ) (m : Sat) : Type 0 where
  pub few : size ≤ 64
  pub owned : size ≤ length m.0.part.core.owned
  pub held : length m.0.held ≡ size
  pub apart : AreApart m.1
  pub nodes : (n : ℕ) → n < size → owns m.0.part.core n ≡ true → (x : Node) × (get_elem? m.0.held n ≡ some (Some x))
      × (slot_of m.1 n ≡ Some (Content x))
  pub others : (n : ℕ) → n < 64 → (size ≤ n) ⊎ (owns m.0.part.core n ≡ false) → slot_of m.1 n ≡ None
  pub list : (n : ℕ) → m.0.part.core.inside ≡ suc n → slot_of m.1 (list_at n) ≡ Some (Line m.0.part.core.list)
  pub lists : (n : ℕ) → m.0.part.core.inside ≢ suc n → slot_of m.1 (list_at n) ≡ None
  pub unheeded : m.0.part.core.heeded ≡ 0
