use Rattle.ww_view.proofs.Deaths as from
use Rattle.ww_view.proofs.laws.sign_is_told.Goals as goal

pub returns : goal.returns
returns c = from.sign_is_told
