use Rattle.ww_laws.proofs.Deadlocks as kept
use Rattle.ww_laws.proofs.going_on.cycles_are_broken.Goals as goal

pub returns : goal.returns
returns c = kept.cycles_are_broken
