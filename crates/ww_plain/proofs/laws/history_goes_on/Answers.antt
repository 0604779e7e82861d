use Rattle.ww_plain.proofs.Histories.{goes_on}
use Rattle.ww_plain.proofs.laws.history_goes_on.Goals as goal

pub returns : goal.returns
returns c = goes_on
