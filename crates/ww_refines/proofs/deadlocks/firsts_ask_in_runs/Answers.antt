use Rattle.ww_refines.proofs.Unlocking as kept
use Rattle.ww_refines.proofs.deadlocks.firsts_ask_in_runs.Goals as goal

pub returns : goal.returns
returns c = kept.firsts_ask_in_runs
