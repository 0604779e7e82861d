use Rattle.ww_loops.proofs.Claiming as kept
use Rattle.ww_loops.proofs.witness.claims_are_false_without_seats.Goals as goal

pub returns : goal.returns
returns c = kept.claims_are_false_without_seats
