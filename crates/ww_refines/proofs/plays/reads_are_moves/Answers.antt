use Rattle.ww_refines.proofs.Playing as kept
use Rattle.ww_refines.proofs.plays.reads_are_moves.Goals as goal

pub returns : goal.returns
returns c = kept.reads_are_moves
