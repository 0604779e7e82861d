use Rattle.ww_laws.proofs.Condemned as condemned
use Rattle.ww_laws.proofs.states.condemned_looks.Goals as goal

pub returns : goal.returns
returns c = condemned.condemned_looks
