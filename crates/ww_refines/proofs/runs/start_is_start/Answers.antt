use Rattle.ww_refines.proofs.Wholes as kept
use Rattle.ww_refines.proofs.runs.start_is_start.Goals as goal

pub returns : goal.returns
returns c = kept.start_is_start
