use Rattle.ww_refines.proofs.CalledOff as kept
use Rattle.ww_refines.proofs.deadlocks.waits_are_in_endless_runs.Goals as goal

pub returns : goal.returns
returns c = kept.waits_are_in_endless_runs
