use Rattle.ww_laws.proofs.Ending as kept
use Rattle.ww_laws.proofs.going_on.oldest_never_gives_way.Goals as goal

pub returns : goal.returns
returns c = kept.oldest_never_gives_way
