use Rattle.ww_refines.proofs.Serving as kept
use Rattle.ww_refines.proofs.contexts.contexts_are_over_in_runs.Goals as goal

pub returns : goal.returns
returns c = kept.contexts_are_over_in_runs
