use Rattle.ww_laws.proofs.OldestServed as kept
use Rattle.ww_laws.proofs.going_on.oldest_is_served.Goals as goal

pub returns : goal.returns
returns c = kept.oldest_is_served
