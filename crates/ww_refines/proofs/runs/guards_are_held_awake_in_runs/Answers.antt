use Rattle.ww_refines.proofs.Wholes as kept
use Rattle.ww_refines.proofs.runs.guards_are_held_awake_in_runs.Goals as goal

pub returns : goal.returns
returns c = kept.guards_are_held_awake_in_runs
