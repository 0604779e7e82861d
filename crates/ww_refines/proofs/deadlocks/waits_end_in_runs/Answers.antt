use Rattle.ww_refines.proofs.Unlocking as kept
use Rattle.ww_refines.proofs.deadlocks.waits_end_in_runs.Goals as goal

pub returns : goal.returns
returns c = kept.waits_end_in_runs
