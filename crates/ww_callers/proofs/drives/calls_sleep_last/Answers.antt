use Rattle.ww_callers.proofs.Ordered as kept
use Rattle.ww_callers.proofs.drives.calls_sleep_last.Goals as goal

pub returns : goal.returns
returns c = kept.calls_sleep_last
