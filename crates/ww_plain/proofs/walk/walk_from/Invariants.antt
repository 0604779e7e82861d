use Rattle.std.proofs.Common.{◌-◌, length}
use Rattle.ww_plain.specs.Seen.{Marks}
use Rattle.ww_plain.proofs.Fronts.{IsFront}
use Rattle.ww_plain.proofs.walk.walk_from.Given as goal

abbrev pub invariant-loop-next : goal.invariant-loop-next
invariant-loop-next l = IsFront l.graph l.start l.port l.most l.nodes.items l.stop × Marks l.seen.came l.nodes.items

abbrev pub decreases-loop-next : goal.decreases-loop-next
decreases-loop-next l = l.most - length l.nodes.items
