use Rattle.ww_laws.proofs.Viewed as kept
use Rattle.ww_laws.proofs.viewed_runs.viewed_runs_are_there.Goals as goal

pub returns : goal.returns
returns c = kept.viewed_runs_are_there
