use Rattle.ww_protocols.proofs.ClassRuns as kept
use Rattle.ww_protocols.proofs.witness.such_are_reached.Goals as goal

pub returns : goal.returns
returns c = kept.such_are_reached
