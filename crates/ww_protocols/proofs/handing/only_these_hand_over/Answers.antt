use Rattle.ww_protocols.proofs.SharedBehind as kept
use Rattle.ww_protocols.proofs.handing.only_these_hand_over.Goals as goal

pub returns : goal.returns
returns c = kept.only_these_hand_over
