use Rattle.ww_loops.proofs.Ending as kept
use Rattle.ww_loops.proofs.contexts.contexts_are_over_in_drives.Goals as goal

pub returns : goal.returns
returns c = kept.contexts_are_over_in_drives
