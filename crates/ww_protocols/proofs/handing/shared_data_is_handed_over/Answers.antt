use Rattle.ww_protocols.proofs.SharedDataRuns as kept
use Rattle.ww_protocols.proofs.handing.shared_data_is_handed_over.Goals as goal

pub returns : goal.returns
returns c = kept.shared_data_is_handed_over
