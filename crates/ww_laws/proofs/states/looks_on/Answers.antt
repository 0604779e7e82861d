use Rattle.ww_laws.proofs.Condemned as condemned
use Rattle.ww_laws.proofs.states.looks_on.Goals as goal

pub returns : goal.returns
returns c = condemned.looks_on
