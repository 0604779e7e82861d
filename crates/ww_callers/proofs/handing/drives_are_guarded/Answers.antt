use Rattle.ww_callers.proofs.Data as kept
use Rattle.ww_callers.proofs.handing.drives_are_guarded.Goals as goal

pub returns : goal.returns
returns c = kept.drives_are_guarded
