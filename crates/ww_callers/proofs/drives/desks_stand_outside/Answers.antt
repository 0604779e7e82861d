use Rattle.ww_callers.proofs.Outside as kept
use Rattle.ww_callers.proofs.drives.desks_stand_outside.Goals as goal

pub returns : goal.returns
returns c = kept.desks_stand_outside
