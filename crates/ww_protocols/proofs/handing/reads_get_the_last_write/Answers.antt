use Rattle.ww_protocols.proofs.Data as kept
use Rattle.ww_protocols.proofs.handing.reads_get_the_last_write.Goals as goal

pub returns : goal.returns
returns c = kept.reads_get_the_last_write
