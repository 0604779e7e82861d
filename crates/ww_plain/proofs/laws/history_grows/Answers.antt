use Rattle.ww_plain.proofs.Histories.{grows}
use Rattle.ww_plain.proofs.laws.history_grows.Goals as goal

pub returns : goal.returns
returns c = grows
