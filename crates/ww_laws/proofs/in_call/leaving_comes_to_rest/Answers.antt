use Rattle.ww_laws.proofs.AtRest as kept
use Rattle.ww_laws.proofs.in_call.leaving_comes_to_rest.Goals as goal

pub returns : goal.returns
returns c = kept.leaving_comes_to_rest
