use Rattle.ww_refines.proofs.Telling as kept
use Rattle.ww_refines.proofs.plays.steps_are_plays.Goals as goal

pub returns : goal.returns
returns c = kept.steps_are_plays
