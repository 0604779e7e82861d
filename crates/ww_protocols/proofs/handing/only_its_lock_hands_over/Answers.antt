use Rattle.ww_protocols.proofs.Behind as kept
use Rattle.ww_protocols.proofs.handing.only_its_lock_hands_over.Goals as goal

pub returns : goal.returns
returns c = kept.only_its_lock_hands_over
