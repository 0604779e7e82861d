use Rattle.ww_callers.proofs.Runs as kept
use Rattle.ww_callers.proofs.drives.no_wake_is_lost_in_drives.Goals as goal

pub returns : goal.returns
returns c = kept.no_wake_is_lost_in_drives
