use Rattle.ww_laws.proofs.Viewed as kept
use Rattle.ww_laws.proofs.viewed_runs.later_stays.Goals as goal

pub returns : goal.returns
returns c = kept.later_stays
