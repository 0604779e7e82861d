use Rattle.ww_protocols.proofs.ClassesKept as kept
use Rattle.ww_protocols.proofs.seats.nobody_uses_it_yet.Goals as goal

pub returns : goal.returns
returns c = kept.nobody_uses_it_yet
