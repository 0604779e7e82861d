use Rattle.ww_laws.proofs.EndlessExamples as kept
use Rattle.ww_laws.proofs.sleepers.endless_runs_have_sleepers.Goals as goal

pub returns : goal.returns
returns c = kept.endless_runs_have_sleepers
