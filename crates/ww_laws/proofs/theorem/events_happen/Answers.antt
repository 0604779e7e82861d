use Rattle.ww_laws.proofs.Reaching as kept
use Rattle.ww_laws.proofs.theorem.events_happen.Goals as goal

pub returns : goal.returns
returns c = kept.events_happen
