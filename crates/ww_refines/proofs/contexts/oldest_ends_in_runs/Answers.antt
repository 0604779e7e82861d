use Rattle.ww_refines.proofs.Serving as kept
use Rattle.ww_refines.proofs.contexts.oldest_ends_in_runs.Goals as goal

pub returns : goal.returns
returns c = kept.oldest_ends_in_runs
