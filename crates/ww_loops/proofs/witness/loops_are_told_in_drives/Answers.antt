use Rattle.ww_loops.proofs.Told as kept
use Rattle.ww_loops.proofs.witness.loops_are_told_in_drives.Goals as goal

pub returns : goal.returns
returns c = kept.loops_are_told_in_drives
