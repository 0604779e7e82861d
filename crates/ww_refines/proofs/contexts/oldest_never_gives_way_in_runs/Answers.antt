use Rattle.ww_refines.proofs.Serving as kept
use Rattle.ww_refines.proofs.contexts.oldest_never_gives_way_in_runs.Goals as goal

pub returns : goal.returns
returns c = kept.oldest_never_gives_way_in_runs
