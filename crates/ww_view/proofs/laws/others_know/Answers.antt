use Rattle.ww_view.proofs.Others as from
use Rattle.ww_view.proofs.laws.others_know.Goals as goal

pub returns : goal.returns
returns c = from.others_know
