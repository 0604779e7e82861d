use Rattle.ww_view.proofs.Deaths as from
use Rattle.ww_view.proofs.laws.death_is_shown.Goals as goal

pub returns : goal.returns
returns c = from.die_shows
