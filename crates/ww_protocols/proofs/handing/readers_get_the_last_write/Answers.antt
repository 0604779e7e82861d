use Rattle.ww_protocols.proofs.SharedData as kept
use Rattle.ww_protocols.proofs.handing.readers_get_the_last_write.Goals as goal

pub returns : goal.returns
returns c = kept.readers_get_the_last_write
