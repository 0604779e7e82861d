use Rattle.ww_laws.proofs.Handoff as kept
use Rattle.ww_laws.proofs.going_on.waits_end.Goals as goal

pub returns : goal.returns
returns c = kept.waits_end
