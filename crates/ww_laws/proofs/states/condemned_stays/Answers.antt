use Rattle.ww_laws.proofs.Condemned as condemned
use Rattle.ww_laws.proofs.states.condemned_stays.Goals as goal

pub returns : goal.returns
returns c = condemned.condemned_stays
