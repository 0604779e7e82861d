use Rattle.std.proofs.Common.{◌≡◌, ◌≤◌}
use Rattle.std.specs.Prelude.{vec_len, vec_capacity}
use Rattle.ww_invariant.specs.Homes.{AreSlots}
use Rattle.ww_invariant.specs.Rule.{nodes_of}
use Rattle.ww_invariant.proofs.homes.slots.Given as goal

abbrev pub invariant-loop-n : goal.invariant-loop-n
invariant-loop-n l = AreSlots (nodes_of l.bare l.graph) l.n l.slots.items × (vec_len l.slots ≡ l.n) × (l.count ≤ vec_capacity l.slots)
