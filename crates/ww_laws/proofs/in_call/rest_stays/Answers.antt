use Rattle.ww_laws.proofs.AtRest as kept
use Rattle.ww_laws.proofs.in_call.rest_stays.Goals as goal

pub returns : goal.returns
returns c = kept.rest_stays
