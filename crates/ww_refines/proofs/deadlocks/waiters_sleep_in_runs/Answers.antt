use Rattle.ww_refines.proofs.Unlocking as kept
use Rattle.ww_refines.proofs.deadlocks.waiters_sleep_in_runs.Goals as goal

pub returns : goal.returns
returns c = kept.waiters_sleep_in_runs
