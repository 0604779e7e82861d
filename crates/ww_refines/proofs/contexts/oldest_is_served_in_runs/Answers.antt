use Rattle.ww_refines.proofs.Serving as kept
use Rattle.ww_refines.proofs.contexts.oldest_is_served_in_runs.Goals as goal

pub returns : goal.returns
returns c = kept.oldest_is_served_in_runs
