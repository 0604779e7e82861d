use Rattle.ww_callers.proofs.Runs as kept
use Rattle.ww_callers.proofs.drives.nobody_sleeps_in_vain_in_drives.Goals as goal

pub returns : goal.returns
returns c = kept.nobody_sleeps_in_vain_in_drives
