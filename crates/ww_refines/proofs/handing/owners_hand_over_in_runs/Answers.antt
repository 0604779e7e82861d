use Rattle.ww_refines.proofs.Passing as kept
use Rattle.ww_refines.proofs.handing.owners_hand_over_in_runs.Goals as goal

pub returns : goal.returns
returns c = kept.owners_hand_over_in_runs
