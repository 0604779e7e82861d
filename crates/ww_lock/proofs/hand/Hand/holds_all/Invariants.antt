use Rattle.std.proofs.Common.{take}
use Rattle.ww_lock.specs.Carried.{holding_of}
use Rattle.ww_lock.specs.Holding.{Holds}
use Rattle.ww_lock.proofs.hand.Hand.holds_all.Given as goal

abbrev pub invariant-loop-n : goal.invariant-loop-n
invariant-loop-n l = Holds (holding_of l.self) (take l.n-index l.nodes)
