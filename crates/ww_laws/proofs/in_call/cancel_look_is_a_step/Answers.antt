use Rattle.ww_laws.proofs.Calls as kept
use Rattle.ww_laws.proofs.in_call.cancel_look_is_a_step.Goals as goal

pub returns : goal.returns
returns c = kept.cancel_look_is_a_step
