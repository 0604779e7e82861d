use Rattle.ww_protocols.proofs.SharedData as kept
use Rattle.ww_protocols.proofs.handing.marks_are_stored_in_order.Goals as goal

pub returns : goal.returns
returns c = kept.marks_are_stored_in_order
