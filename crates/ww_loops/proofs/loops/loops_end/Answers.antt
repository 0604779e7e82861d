use Rattle.ww_loops.proofs.Rounds as kept
use Rattle.ww_loops.proofs.loops.loops_end.Goals as goal

pub returns : goal.returns
returns c = kept.loops_end
