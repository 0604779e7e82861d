use Rattle.ww_refines.proofs.Unlocking as kept
use Rattle.ww_refines.proofs.deadlocks.no_deadlock_lasts_in_runs.Goals as goal

pub returns : goal.returns
returns c = kept.no_deadlock_lasts_in_runs
