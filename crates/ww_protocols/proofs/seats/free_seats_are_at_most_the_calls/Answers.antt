use Rattle.ww_protocols.proofs.ClassesKept as kept
use Rattle.ww_protocols.proofs.seats.free_seats_are_at_most_the_calls.Goals as goal

pub returns : goal.returns
returns c = kept.free_seats_are_at_most_the_calls
