use Rattle.ww_seat.specs.Bells.{SleepsNot}
use Rattle.ww_seat.specs.Standings.{view_in, IsAt, HasStayedAway, MayGlanceOn}
use Rattle.ww_seat.proofs.seats.Seat.stay_away.Given as goal

abbrev pub invariant-loop : goal.invariant-loop
invariant-loop l = IsAt l.board l.self × HasStayedAway l.initial.self l.self × MayGlanceOn l.stay (view_in l.self)
    × SleepsNot l.initial.patience l.patience
