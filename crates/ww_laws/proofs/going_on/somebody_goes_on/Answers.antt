use Rattle.ww_laws.proofs.Progress as kept
use Rattle.ww_laws.proofs.going_on.somebody_goes_on.Goals as goal

pub returns : goal.returns
returns c = kept.somebody_goes_on
