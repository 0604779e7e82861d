use Rattle.ww_refines.proofs.Napping as kept
use Rattle.ww_refines.proofs.plays.naps_are_last.Goals as goal

pub returns : goal.returns
returns c = kept.naps_are_last
