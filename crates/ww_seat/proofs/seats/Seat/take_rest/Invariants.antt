use Rattle.ww_seat.specs.Standings.{view_in, IsAt, HasStayedAway, MayGlanceOn}
use Rattle.ww_seat.proofs.seats.Seat.take_rest.Given as goal

abbrev pub invariant-loop : goal.invariant-loop
invariant-loop l = IsAt l.board l.self × HasStayedAway l.initial.self l.self × MayGlanceOn l.stay (view_in l.self)
