use Rattle.ww_refines.proofs.Doomed as kept
use Rattle.ww_refines.proofs.deadlocks.deadlocks_are_in_endless_runs.Goals as goal

pub returns : goal.returns
returns c = kept.deadlocks_are_in_endless_runs
