use Rattle.ww_protocols.proofs.HallsKept as kept
use Rattle.ww_protocols.proofs.readers.reached_halls_are_orderly.Goals as goal

pub returns : goal.returns
returns c = kept.reached_halls_are_orderly
