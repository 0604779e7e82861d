use Rattle.ww_callers.proofs.Passing as kept
use Rattle.ww_callers.proofs.handing.desks_hold_what_they_own.Goals as goal

pub returns : goal.returns
returns c = kept.desks_hold_what_they_own
