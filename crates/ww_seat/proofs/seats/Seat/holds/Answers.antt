use Rattle.std.proofs.Common.{sym, ◌∙◌}
use Rattle.ww_seat.proofs.Kept.{holds_kept}
use Rattle.ww_seat.proofs.seats.Seat.holds.Goals as goal

pub returns : goal.returns
returns c = holds_kept c.self.view_is c.self.invariant c.requires.outside c.requires.nodes ∙ sym c.has_out.ensures
