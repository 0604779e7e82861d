use Rattle.ww_laws.proofs.AtRest as kept
use Rattle.ww_laws.proofs.in_call.guard_forgets_the_look.Goals as goal

pub returns : goal.returns
returns c = kept.guard_forgets_the_look
