use Rattle.ww_callers.proofs.Wounding as kept
use Rattle.ww_callers.proofs.witness.deadlocks_are_in_endless_drives.Goals as goal

pub returns : goal.returns
returns c = kept.deadlocks_are_in_endless_drives
