use Rattle.std.proofs.Common.{ap, subst, ◌∙◌}
use Rattle.ww_lock.specs.Closed.{WasSeatOf}
use Rattle.ww_lock.specs.Carried.{Carried, held_of, holding_of}
use Rattle.ww_lock.proofs.Closings.{seat_of_pass}
use Rattle.ww_lock.proofs.hand.Hand.into_seat.Goals as goal

pub returns : goal.returns
returns c = subst (λ (v : Carried). WasSeatOf (holding_of v) c.into_inner.result) c.self.view_is
    (seat_of_pass c.self.inside c.into_inner.result c.self.invariant (ap held_of c.self.view_is ∙ c.requires)
    c.into_inner.ensures.is c.into_inner.ensures.kept)
