use Rattle.ww_laws.proofs.Calls as kept
use Rattle.ww_laws.proofs.in_call.views_tell_whom_to_wake.Goals as goal

pub returns : goal.returns
returns c = kept.views_tell_whom_to_wake
