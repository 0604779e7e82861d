use Rattle.std.proofs.Common.{◌≡◌, map, take}
use Rattle.ww_plain.specs.Numbers.{distinct_of}
use Rattle.ww_plain.proofs.footprints.distinct_nodes.Given as goal

abbrev pub invariant-loop-item : goal.invariant-loop-item
invariant-loop-item g l = l.nodes.items ≡ distinct_of (map g.T.Listed.names (take l.item-index l.items))
