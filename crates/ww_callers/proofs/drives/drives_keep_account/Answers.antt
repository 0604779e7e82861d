use Rattle.ww_callers.proofs.Runs as kept
use Rattle.ww_callers.proofs.drives.drives_keep_account.Goals as goal

pub returns : goal.returns
returns c = kept.drives_keep_account
