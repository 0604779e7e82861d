use Rattle.ww_protocols.proofs.Ways as kept
use Rattle.ww_protocols.proofs.readers.owners_can_write.Goals as goal

pub returns : goal.returns
returns c = kept.owners_can_write
