use Rattle.ww_refines.proofs.Wholes as kept
use Rattle.ww_refines.proofs.runs.runs_show_scenes.Goals as goal

pub returns : goal.returns
returns c = kept.runs_show_scenes
