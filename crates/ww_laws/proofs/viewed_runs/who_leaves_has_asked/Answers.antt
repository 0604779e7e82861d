use Rattle.ww_laws.proofs.Asked as kept
use Rattle.ww_laws.proofs.viewed_runs.who_leaves_has_asked.Goals as goal

pub returns : goal.returns
returns c = kept.who_leaves_has_asked
