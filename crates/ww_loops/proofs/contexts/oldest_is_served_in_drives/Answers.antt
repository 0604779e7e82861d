use Rattle.ww_loops.proofs.Ending as kept
use Rattle.ww_loops.proofs.contexts.oldest_is_served_in_drives.Goals as goal

pub returns : goal.returns
returns c = kept.oldest_is_served_in_drives
