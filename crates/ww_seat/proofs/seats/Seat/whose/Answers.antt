use Rattle.std.proofs.Common.{refl}
use Rattle.ww_seat.proofs.Kept.{kept}
use Rattle.ww_seat.proofs.Outside.{orderly_knowing}
use Rattle.ww_seat.proofs.seats.Seat.whose.Goals as goal

pub invariant_of-self : goal.invariant_of-self
invariant_of-self c = kept c.whose.ensures.seat (orderly_knowing c.self.invariant.orderly c.whose.ensures.me refl refl)
