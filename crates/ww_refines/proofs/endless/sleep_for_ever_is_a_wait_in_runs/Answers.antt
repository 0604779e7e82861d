use Rattle.ww_refines.proofs.Ends as kept
use Rattle.ww_refines.proofs.endless.sleep_for_ever_is_a_wait_in_runs.Goals as goal

pub returns : goal.returns
returns c = kept.sleep_for_ever_is_a_wait_in_runs
