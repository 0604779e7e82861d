use Rattle.ww_refines.proofs.Wholes as kept
use Rattle.ww_refines.proofs.runs.no_wake_is_lost_in_runs.Goals as goal

pub returns : goal.returns
returns c = kept.no_wake_is_lost_in_runs
