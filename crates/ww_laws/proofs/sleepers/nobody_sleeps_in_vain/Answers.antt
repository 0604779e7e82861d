use Rattle.ww_laws.proofs.Endless as kept
use Rattle.ww_laws.proofs.sleepers.nobody_sleeps_in_vain.Goals as goal

pub returns : goal.returns
returns c = kept.nobody_sleeps_in_vain
