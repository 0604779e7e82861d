use Rattle.ww_callers.proofs.Looking as kept
use Rattle.ww_callers.proofs.drives.looks_are_true.Goals as goal

pub returns : goal.returns
returns c = kept.looks_are_true
