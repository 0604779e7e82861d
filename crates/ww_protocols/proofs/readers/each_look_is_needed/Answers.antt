use Rattle.ww_protocols.proofs.HallRuns as kept
use Rattle.ww_protocols.proofs.readers.each_look_is_needed.Goals as goal

pub returns : goal.returns
returns c = kept.each_look_is_needed
