use Rattle.ww_seat.specs.Standings.{IsAt, MayRelease, HasGoneIn}
use Rattle.ww_seat.proofs.seats.Seat.spin_into_owned.Given as goal

abbrev pub invariant-loop : goal.invariant-loop
invariant-loop g l =
    (goal.iterator-loop g).can_next l.iterator' × (goal.iterator-loop g).is_finite l.iterator'
    × IsAt l.board l.self × MayRelease l.board l.lock l.self × HasGoneIn l.initial.self l.self
