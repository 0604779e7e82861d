use Rattle.ww_protocols.proofs.SharedData as kept
use Rattle.ww_protocols.proofs.handing.reads_stay_the_same.Goals as goal

pub returns : goal.returns
returns c = kept.reads_stay_the_same
