use Rattle.ww_laws.proofs.Oldest as kept
use Rattle.ww_laws.proofs.theorem.oldest_never_dies.Goals as goal

pub returns : goal.returns
returns c = kept.oldest_never_dies
