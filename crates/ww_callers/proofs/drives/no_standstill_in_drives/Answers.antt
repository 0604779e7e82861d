use Rattle.ww_callers.proofs.Runs as kept
use Rattle.ww_callers.proofs.drives.no_standstill_in_drives.Goals as goal

pub returns : goal.returns
returns c = kept.no_standstill_in_drives
