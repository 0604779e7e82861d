use Rattle.ww_laws.proofs.Endless as kept
use Rattle.ww_laws.proofs.sleepers.sleep_for_ever_is_a_wait.Goals as goal

pub returns : goal.returns
returns c = kept.sleep_for_ever_is_a_wait
