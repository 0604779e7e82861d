use Rattle.ww_callers.proofs.HandedOver as kept
use Rattle.ww_callers.proofs.witness.data_is_stale_without_its_lock.Goals as goal

pub returns : goal.returns
returns c = kept.data_is_stale_without_its_lock
