use Rattle.ww_laws.proofs.Livelock as kept
use Rattle.ww_laws.proofs.going_on.no_livelock.Goals as goal

pub returns : goal.returns
returns c = kept.no_livelock
