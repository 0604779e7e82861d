use Rattle.ww_protocols.proofs.ClassesKept as kept
use Rattle.ww_protocols.proofs.seats.seats_say_whose_they_are.Goals as goal

pub returns : goal.returns
returns c = kept.seats_say_whose_they_are
