use Rattle.ww_queue.proofs.Signs.{sign_is_wound}
use Rattle.ww_queue.proofs.laws.sign_is_wound.Goals as goal

pub returns : goal.returns
returns c = sign_is_wound
