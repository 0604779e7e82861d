use Rattle.ww_laws.proofs.Deadlocks as kept
use Rattle.ww_laws.proofs.going_on.no_deadlock_lasts.Goals as goal

pub returns : goal.returns
returns c = kept.no_deadlock_lasts
