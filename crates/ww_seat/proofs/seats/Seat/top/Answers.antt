use Rattle.ww_seat.proofs.Kept.{top_kept}
use Rattle.ww_seat.proofs.seats.Seat.top.Goals as goal

pub returns-clause-top : goal.returns-clause-top
returns-clause-top c = top_kept c.top.result c.self.view_is c.self.invariant c.requires c.top.ensures.top
