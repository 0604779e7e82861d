use Rattle.std.proofs.Common.{◌≡◌, length}
use Rattle.ww_lock.specs.Carried.{holding_of, held_of}
use Rattle.ww_lock.proofs.hand.Hand.give_all.Given as goal

abbrev pub invariant-loop-n : goal.invariant-loop-n
invariant-loop-n g l = holding_of l.self ≡ record (holding_of l.fn.self) { held = held_of l.self }

abbrev pub decreases-loop-n : goal.decreases-loop-n
decreases-loop-n g l = length (held_of l.self)
