use Rattle.ww_laws.proofs.Keeping as kept
use Rattle.ww_laws.proofs.sleepers.no_wake_is_lost.Goals as goal

pub returns : goal.returns
returns c = kept.no_wake_is_lost
