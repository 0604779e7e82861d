use Rattle.std.proofs.Common.{◌≡◌, map, take}
use Rattle.ww_plain.specs.Graph.{value_of}
use Rattle.ww_plain.proofs.meaning.values.Given as goal

abbrev pub invariant-loop-node : goal.invariant-loop-node
invariant-loop-node l = l.values.items ≡ map (value_of l.graph) (take l.node-index l.nodes)
