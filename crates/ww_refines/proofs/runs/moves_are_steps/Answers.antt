use Rattle.ww_refines.proofs.Following as kept
use Rattle.ww_refines.proofs.runs.moves_are_steps.Goals as goal

pub returns : goal.returns
returns c = kept.moves_are_steps
