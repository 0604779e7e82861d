use Rattle.ww_view.proofs.Shows as from
use Rattle.ww_view.proofs.laws.exit_is_possible.Goals as goal

pub returns : goal.returns
returns c = λ d v n l outside k may. from.shows_exit d v l k n outside may
