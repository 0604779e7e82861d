use Rattle.ww_refines.proofs.Ends as kept
use Rattle.ww_refines.proofs.endless.nobody_sleeps_in_vain_in_runs.Goals as goal

pub returns : goal.returns
returns c = kept.nobody_sleeps_in_vain_in_runs
