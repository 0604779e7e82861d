use Rattle.ww_laws.proofs.Ending as kept
use Rattle.ww_laws.proofs.going_on.oldest_ends.Goals as goal

pub returns : goal.returns
returns c = kept.oldest_ends
