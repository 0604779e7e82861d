use Rattle.std.proofs.Common.{◌≡◌, map, take}
use Rattle.ww_txn.proofs.ways.nodes_of.Given as goal

abbrev pub invariant-loop-node : goal.invariant-loop-node
invariant-loop-node l = l.nodes.items ≡ map (λ pair. pair.0) (take l.node-index l.amounts)
