use Rattle.ww_laws.proofs.Calls as kept
use Rattle.ww_laws.proofs.in_call.sign_look_is_a_step.Goals as goal

pub returns : goal.returns
returns c = kept.sign_look_is_a_step
