use Rattle.std.proofs.Common.{◌≡◌, ℕ, ◌<◌, ◌≤◌, length, vec_len, vec_capacity}
use mathlib.Core.Option.{some}
use lib.ListN.{get_elem?}
use Rattle.std.specs.Slots.{slots_items, slots_filled, slots_len}
use Rattle.ww_plain.specs.declared.node.Node.{Node}
use Rattle.ww_invariant.specs.declared.cells.Cell.TheVariants.{Content}
use Rattle.ww_invariant.specs.Homes.{AreTakenBelow}
use Rattle.ww_invariant.proofs.homes.nodes_of.Given as goal

abbrev pub invariant-loop-n : goal.invariant-loop-n
invariant-loop-n l = AreTakenBelow l.n l.count (slots_filled l.closed.slots) × (slots_len l.closed.slots ≡ l.count)
    × (slots_items l.closed.slots ≡ slots_items l.initial.closed.slots) × (length l.nodes.items ≡ l.n)
    × (vec_len l.nodes ≡ l.n) × (l.size ≤ vec_capacity l.nodes)
    × ((k : ℕ) (x : Node) → k < l.n → get_elem? (slots_items l.initial.closed.slots) k ≡ some (Content x)
    → get_elem? l.nodes.items k ≡ some x)
