use Rattle.ww_laws.proofs.Idle as kept
use Rattle.ww_laws.proofs.going_on.who_wants_none_rests.Goals as goal

pub returns : goal.returns
returns c = kept.who_wants_none_rests
