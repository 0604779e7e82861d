use Rattle.ww_laws.proofs.Examples as kept
use Rattle.ww_laws.proofs.sleepers.sleepers_are_reached.Goals as goal

pub returns : goal.returns
returns c = kept.sleepers_are_reached
