use Rattle.ww_laws.proofs.Witness as kept
use Rattle.ww_laws.proofs.going_on.deadlocks_are_reached.Goals as goal

pub returns : goal.returns
returns c = kept.deadlocks_are_reached
