use Rattle.ww_refines.proofs.Following as kept
use Rattle.ww_refines.proofs.runs.others_are_none.Goals as goal

pub returns : goal.returns
returns c = kept.others_are_none
