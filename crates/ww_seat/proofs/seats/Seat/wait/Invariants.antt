use Rattle.std.proofs.Common.{◌≡◌}
use Rattle.ww_seat.specs.Bells.{sleeps_at, ArePlacedAlike}
use Rattle.ww_seat.specs.Calls.{HoldsAsBefore}
use Rattle.ww_seat.specs.Work.{ComesOutside}
use Rattle.ww_seat.specs.declared.waits.Waits.TheVariants.{UntilCancelled}
use Rattle.ww_seat.specs.Standings.{view_in, OwnsNodes, IsAt, IsSame, MayGoIn, MayWaitWith}
use Rattle.ww_seat.proofs.seats.Seat.wait.Given as goal

abbrev pub invariant-loop : goal.invariant-loop
invariant-loop g l =
    (goal.iterator-loop g).can_next l.iterator' × (goal.iterator-loop g).is_finite l.iterator'
    × IsAt l.board l.self × MayWaitWith l.board l.self l.patience l.bells × MayGoIn l.board l.lock l.self
    × ComesOutside l.arrival (view_in l.self) × OwnsNodes l.self
    × IsSame l.initial.self l.self × HoldsAsBefore l.initial.self.me l.self.me
    × (sleeps_at l.patience ≡ sleeps_at l.initial.patience) × ArePlacedAlike l.initial.bells l.bells
    × (l.fn.waits ≡ UntilCancelled → (view_in l.self).deaf ≡ (view_in l.initial.self).deaf)
