-- The slots of a table before its first step and after its last.
use Rattle.std.specs.Prelude.{ℕ, ◌≡◌, ◌<◌, ◌≤◌, [], Bool, true, false, List, length, slice_index_or}
use mathlib.Core.Option.{some}
use lib.ListN.{get_elem?}
use Rattle.ww_plain.specs.declared.node.Node.{Node}
use Rattle.ww_plain.specs.Graph.{node_at}
use Rattle.ww_invariant.specs.declared.cells.Cell.{Cell}
use Rattle.ww_invariant.specs.declared.cells.Cell.TheVariants.{Content, Line}

-- the first slots have the nodes of the graph, and all others empty wait lists
pub record AreSlots (graph : List Node) (count : ℕ) (slots : List Cell) : Type 0 where
  pub many : length slots ≡ count
  pub nodes : (n : ℕ) → n < count → n < length graph → get_elem? slots n ≡ some (Content (node_at graph n))
  pub lists : (n : ℕ) → n < count → length graph ≤ n → get_elem? slots n ≡ some (Line [])

-- the slots from this one on are not taken yet, and those before it are
pub record AreTakenBelow (taken count : ℕ) (filled : List Bool) : Type 0 where
  pub there : (k : ℕ) → taken ≤ k → k < count → slice_index_or filled k false ≡ true
  pub gone : (k : ℕ) → k < taken → slice_index_or filled k false ≡ false
