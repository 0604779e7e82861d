use Rattle.std.proofs.Common.{take}
use Rattle.std.specs.List.{AllByRecursion}
use Rattle.ww_lock.specs.Carried.{holding_of}
use Rattle.ww_lock.specs.Making.{HoldsUnchanged}
use Rattle.ww_lock.proofs.hand.Hand.finds_all.Given as goal

abbrev pub invariant-loop-change : goal.invariant-loop-change
invariant-loop-change l = AllByRecursion (HoldsUnchanged (holding_of l.self)) (take l.change-index l.changes)
