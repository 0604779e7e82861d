use Rattle.ww_protocols.proofs.Tickets as kept
use Rattle.ww_protocols.proofs.seats.copies_win_once.Goals as goal

pub returns : goal.returns
returns c = kept.copies_win_once
