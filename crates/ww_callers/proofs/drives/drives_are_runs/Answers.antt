use Rattle.ww_callers.proofs.Runs as kept
use Rattle.ww_callers.proofs.drives.drives_are_runs.Goals as goal

pub returns : goal.returns
returns c = kept.drives_are_runs
