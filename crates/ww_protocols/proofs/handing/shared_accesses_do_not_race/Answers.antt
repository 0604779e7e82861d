use Rattle.ww_protocols.proofs.SharedData as kept
use Rattle.ww_protocols.proofs.handing.shared_accesses_do_not_race.Goals as goal

pub returns : goal.returns
returns c = kept.shared_accesses_do_not_race
