use Rattle.ww_callers.proofs.Looked as kept
use Rattle.ww_callers.proofs.witness.looks_are_in_drives.Goals as goal

pub returns : goal.returns
returns c = kept.looks_are_in_drives
