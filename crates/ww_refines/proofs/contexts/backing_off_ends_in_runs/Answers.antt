use Rattle.ww_refines.proofs.Serving as kept
use Rattle.ww_refines.proofs.contexts.backing_off_ends_in_runs.Goals as goal

pub returns : goal.returns
returns c = kept.backing_off_ends_in_runs
