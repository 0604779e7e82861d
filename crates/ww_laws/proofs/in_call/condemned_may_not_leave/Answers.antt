use Rattle.ww_laws.proofs.AtRest as kept
use Rattle.ww_laws.proofs.in_call.condemned_may_not_leave.Goals as goal

pub returns : goal.returns
returns c = kept.condemned_may_not_leave
