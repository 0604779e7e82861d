use Rattle.ww_protocols.proofs.Ways as kept
use Rattle.ww_protocols.proofs.readers.sitters_can_read.Goals as goal

pub returns : goal.returns
returns c = kept.sitters_can_read
