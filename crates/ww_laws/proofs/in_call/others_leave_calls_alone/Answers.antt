use Rattle.ww_laws.proofs.Calls as kept
use Rattle.ww_laws.proofs.in_call.others_leave_calls_alone.Goals as goal

pub returns : goal.returns
returns c = kept.others_leave_calls_alone
