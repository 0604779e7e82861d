use Rattle.ww_callers.proofs.CalledOff as kept
use Rattle.ww_callers.proofs.witness.waits_are_in_endless_drives.Goals as goal

pub returns : goal.returns
returns c = kept.waits_are_in_endless_drives
