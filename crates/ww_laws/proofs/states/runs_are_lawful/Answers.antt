use Rattle.ww_model.proofs.Kept as kept
use Rattle.ww_laws.proofs.states.runs_are_lawful.Goals as goal

pub returns : goal.returns
returns c = kept.runs_are_lawful
