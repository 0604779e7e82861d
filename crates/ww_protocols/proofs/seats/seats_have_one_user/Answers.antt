use Rattle.ww_protocols.proofs.ClassesKept as kept
use Rattle.ww_protocols.proofs.seats.seats_have_one_user.Goals as goal

pub returns : goal.returns
returns c = kept.seats_have_one_user
