use Rattle.ww_callers.proofs.Passing as kept
use Rattle.ww_callers.proofs.handing.owners_hand_over_in_drives.Goals as goal

pub returns : goal.returns
returns c = kept.owners_hand_over_in_drives
