use Rattle.std.proofs.Common.{◌≡◌, fold, take}
use Rattle.ww_plain.specs.Meaning.{raised}
use Rattle.ww_plain.proofs.meaning.add.Given as goal

abbrev pub invariant-loop-node : goal.invariant-loop-node
invariant-loop-node l = l.nodes ≡ fold raised l.initial.nodes (take l.node-index l.amounts)
