use Rattle.ww_callers.proofs.Data as kept
use Rattle.ww_callers.proofs.handing.reads_get_the_last_write_in_drives.Goals as goal

pub returns : goal.returns
returns c = kept.reads_get_the_last_write_in_drives
