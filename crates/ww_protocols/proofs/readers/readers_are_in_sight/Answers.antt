use Rattle.ww_protocols.proofs.HallsKept as kept
use Rattle.ww_protocols.proofs.readers.readers_are_in_sight.Goals as goal

pub returns : goal.returns
returns c = kept.readers_are_in_sight
