use Rattle.std.proofs.Common.{◌≡◌, ◌≤◌, ◌*◌, ◌^◌, sum_by, take}
use Rattle.ww_plain.specs.Graph.{value_of}
use Rattle.ww_plain.proofs.meaning.sum.Given as goal

abbrev pub invariant-loop-node : goal.invariant-loop-node
invariant-loop-node l = (l.total ≡ sum_by (value_of l.graph) (take l.node-index l.walk)) × (l.total ≤ l.node-index * 2 ^ 64)
