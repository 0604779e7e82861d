use Rattle.ww_protocols.proofs.ClassRuns as kept
use Rattle.ww_protocols.proofs.witness.rest_matters.Goals as goal

pub returns : goal.returns
returns c = kept.rest_matters
