use Rattle.ww_seat.proofs.Glances.{still_waits}
use Rattle.ww_seat.proofs.seats.Seat.wait_for.Goals as goal

pub wait-requires-clause-may : goal.wait-requires-clause-may
wait-requires-clause-may g c = still_waits c.requires.may c.stay_away.ensures.0
