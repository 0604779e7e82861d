use Rattle.ww_loops.proofs.Oldest as kept
use Rattle.ww_loops.proofs.loops.oldest_loop_ends.Goals as goal

pub returns : goal.returns
returns c = kept.oldest_loop_ends
