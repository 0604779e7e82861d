use Rattle.ww_callers.proofs.Runs as kept
use Rattle.ww_callers.proofs.drives.opened_worlds_begin.Goals as goal

pub returns : goal.returns
returns c = kept.opened_worlds_begin
