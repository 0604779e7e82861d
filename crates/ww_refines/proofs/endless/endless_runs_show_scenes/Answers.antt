use Rattle.ww_refines.proofs.Ends as kept
use Rattle.ww_refines.proofs.endless.endless_runs_show_scenes.Goals as goal

pub returns : goal.returns
returns c = kept.endless_runs_show_scenes
