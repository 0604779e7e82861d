use Rattle.ww_laws.proofs.Calls as kept
use Rattle.ww_laws.proofs.in_call.wakers_may_sleep.Goals as goal

pub returns : goal.returns
returns c = kept.wakers_may_sleep
