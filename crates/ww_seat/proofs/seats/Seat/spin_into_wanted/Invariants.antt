use Rattle.std.proofs.Common.{◌≡◌}
use Rattle.ww_seat.specs.Standings.{view_in, IsAt, MayGoIn, HasGoneIn}
use Rattle.ww_seat.proofs.seats.Seat.spin_into_wanted.Given as goal

abbrev pub invariant-loop : goal.invariant-loop
invariant-loop g l =
    (goal.iterator-loop g).can_next l.iterator' × (goal.iterator-loop g).is_finite l.iterator'
    × IsAt l.board l.self × MayGoIn l.board l.lock l.self × HasGoneIn l.initial.self l.self
    × ((view_in l.self).waits ≡ (view_in l.initial.self).waits)
