use Rattle.ww_protocols.proofs.ClassesKept as kept
use Rattle.ww_protocols.proofs.seats.suspended_seats_are_kept.Goals as goal

pub returns : goal.returns
returns c = kept.suspended_seats_are_kept
