use Rattle.ww_loops.proofs.Looping as kept
use Rattle.ww_loops.proofs.loops.loops_back_off.Goals as goal

pub returns : goal.returns
returns c = kept.loops_back_off
