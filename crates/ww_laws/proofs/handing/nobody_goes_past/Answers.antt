use Rattle.ww_laws.proofs.Passing as kept
use Rattle.ww_laws.proofs.handing.nobody_goes_past.Goals as goal

pub returns : goal.returns
returns c = kept.nobody_goes_past
