use Rattle.ww_laws.proofs.Links as kept
use Rattle.ww_laws.proofs.going_on.wounded_wait_no_more.Goals as goal

pub returns : goal.returns
returns c = kept.wounded_wait_no_more
