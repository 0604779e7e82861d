use Rattle.ww_laws.proofs.Contexts as kept
use Rattle.ww_laws.proofs.going_on.oldest_wait_die_is_served.Goals as goal

pub returns : goal.returns
returns c = kept.oldest_wait_die_is_served
