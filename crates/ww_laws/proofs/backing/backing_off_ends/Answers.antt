use Rattle.ww_laws.proofs.Deaths as kept
use Rattle.ww_laws.proofs.backing.backing_off_ends.Goals as goal

pub returns : goal.returns
returns c = kept.backing_off_ends
