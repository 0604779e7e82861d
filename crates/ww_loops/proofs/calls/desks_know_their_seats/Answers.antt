use Rattle.ww_loops.proofs.Locking as kept
use Rattle.ww_loops.proofs.calls.desks_know_their_seats.Goals as goal

pub returns : goal.returns
returns c = kept.desks_know_their_seats
