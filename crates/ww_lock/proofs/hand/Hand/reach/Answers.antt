use Rattle.std.proofs.Common.{subst, sym}
use Rattle.ww_lock.specs.Holding.{AreBelow}
use Rattle.ww_lock.specs.Carried.{Carried, holding_of}
use Rattle.ww_lock.proofs.Closings.{below_own, own_below}
use Rattle.ww_lock.proofs.hand.Hand.reach.Goals as goal

pub returns-clause-all : goal.returns-clause-all
returns-clause-all c = subst (λ (v : Carried). AreBelow c.reach.result (holding_of v).own) c.self.view_is
    (below_own c.reach.result c.self.inside.seat.me.0.part.own c.reach.ensures.all)

pub returns-clause-exact : goal.returns-clause-exact
returns-clause-exact c = λ n low below. c.reach.ensures.exact n low (own_below n c.self.inside.seat.me.0.part.own
    (subst (λ (v : Carried). AreBelow n (holding_of v).own) (sym c.self.view_is) below))
