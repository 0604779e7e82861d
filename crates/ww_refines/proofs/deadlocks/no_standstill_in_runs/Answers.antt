use Rattle.ww_refines.proofs.Standstill as kept
use Rattle.ww_refines.proofs.deadlocks.no_standstill_in_runs.Goals as goal

pub returns : goal.returns
returns c = kept.no_standstill_in_runs
