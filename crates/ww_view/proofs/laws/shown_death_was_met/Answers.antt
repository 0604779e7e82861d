use Rattle.ww_view.proofs.Deaths as from
use Rattle.ww_view.proofs.laws.shown_death_was_met.Goals as goal

pub returns : goal.returns
returns c = from.die_met
