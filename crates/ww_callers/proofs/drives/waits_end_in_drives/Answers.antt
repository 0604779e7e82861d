use Rattle.ww_callers.proofs.Runs as kept
use Rattle.ww_callers.proofs.drives.waits_end_in_drives.Goals as goal

pub returns : goal.returns
returns c = kept.waits_end_in_drives
