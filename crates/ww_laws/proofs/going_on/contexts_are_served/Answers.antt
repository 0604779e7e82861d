use Rattle.ww_laws.proofs.Contexts as kept
use Rattle.ww_laws.proofs.going_on.contexts_are_served.Goals as goal

pub returns : goal.returns
returns c = kept.contexts_are_served
