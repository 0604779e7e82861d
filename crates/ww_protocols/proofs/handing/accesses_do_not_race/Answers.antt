use Rattle.ww_protocols.proofs.Data as kept
use Rattle.ww_protocols.proofs.handing.accesses_do_not_race.Goals as goal

pub returns : goal.returns
returns c = kept.accesses_do_not_race
