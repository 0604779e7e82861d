use Rattle.ww_laws.proofs.Walks as kept
use Rattle.ww_laws.proofs.sleepers.sleepers_await_a_holder.Goals as goal

pub returns : goal.returns
returns c = kept.sleepers_await_a_holder
