use Rattle.ww_model.proofs.Kept as kept
use Rattle.ww_laws.proofs.events.keeps_lawful.Goals as goal

pub returns : goal.returns
returns c = kept.keeps_lawful
