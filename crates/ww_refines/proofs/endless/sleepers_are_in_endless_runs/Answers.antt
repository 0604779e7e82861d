use Rattle.ww_refines.proofs.Sleepers as kept
use Rattle.ww_refines.proofs.endless.sleepers_are_in_endless_runs.Goals as goal

pub returns : goal.returns
returns c = kept.sleepers_are_in_endless_runs
