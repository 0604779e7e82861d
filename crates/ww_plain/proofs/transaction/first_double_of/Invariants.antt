use Rattle.std.proofs.Common.{take, map}
use Rattle.ww_plain.specs.Numbers.{AreDifferent}
use Rattle.ww_plain.specs.Seen.{Marks}
use Rattle.ww_plain.proofs.transaction.first_double_of.Given as goal

abbrev pub invariant-loop-item : goal.invariant-loop-item
invariant-loop-item g l =
    AreDifferent (map g.T.Listed.names (take l.item-index l.items)) × Marks l.seen.came (map g.T.Listed.names (take l.item-index l.items))
