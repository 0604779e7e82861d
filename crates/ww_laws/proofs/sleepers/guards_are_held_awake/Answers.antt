use Rattle.ww_laws.proofs.Keeping as kept
use Rattle.ww_laws.proofs.sleepers.guards_are_held_awake.Goals as goal

pub returns : goal.returns
returns c = kept.guards_are_held_awake
