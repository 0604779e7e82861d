use Rattle.ww_callers.proofs.HandedOver as kept
use Rattle.ww_callers.proofs.witness.data_is_handed_over.Goals as goal

pub returns : goal.returns
returns c = kept.data_is_handed_over
