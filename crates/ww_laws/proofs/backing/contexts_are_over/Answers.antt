use Rattle.ww_laws.proofs.Contexts as kept
use Rattle.ww_laws.proofs.backing.contexts_are_over.Goals as goal

pub returns : goal.returns
returns c = kept.contexts_are_over
