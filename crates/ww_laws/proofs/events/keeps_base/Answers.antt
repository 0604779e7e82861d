use Rattle.ww_model.proofs.Kept as kept
use Rattle.ww_laws.proofs.events.keeps_base.Goals as goal

pub returns : goal.returns
returns c = kept.keeps_base
