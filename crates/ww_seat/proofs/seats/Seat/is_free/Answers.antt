use Rattle.std.proofs.Common.{refl}
use Rattle.ww_seat.proofs.Kept.{kept}
use Rattle.ww_seat.proofs.Outside.{orderly_knowing}
use Rattle.ww_seat.proofs.seats.Seat.is_free.Goals as goal

pub invariant_of-self : goal.invariant_of-self
invariant_of-self c = kept c.is_free.ensures.seat (orderly_knowing c.self.invariant.orderly c.is_free.ensures.word.1 refl refl)
