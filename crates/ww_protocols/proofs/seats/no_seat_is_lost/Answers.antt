use Rattle.ww_protocols.proofs.ClassesKept as kept
use Rattle.ww_protocols.proofs.seats.no_seat_is_lost.Goals as goal

pub returns : goal.returns
returns c = kept.no_seat_is_lost
