use Rattle.ww_callers.proofs.Runs as kept
use Rattle.ww_callers.proofs.drives.drives_run_on.Goals as goal

pub returns : goal.returns
returns c = kept.drives_run_on
