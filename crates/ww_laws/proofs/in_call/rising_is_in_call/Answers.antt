use Rattle.ww_laws.proofs.AtRest as kept
use Rattle.ww_laws.proofs.in_call.rising_is_in_call.Goals as goal

pub returns : goal.returns
returns c = kept.rising_is_in_call
