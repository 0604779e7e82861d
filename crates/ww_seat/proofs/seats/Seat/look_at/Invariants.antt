use Rattle.std.proofs.Common.{◌≡◌, ℕ, List, length}
use Rattle.ww_seat.specs.Calls.{HoldsAsBefore}
use Rattle.ww_seat.specs.Looks.{StaysAwake}
use Rattle.ww_seat.specs.Work.{AreOnlyWoken, HasBooked}
use Rattle.ww_seat.specs.Standings.{view_in, IsAt, IsSame, IsAtWorkThere}
use Rattle.ww_seat.proofs.seats.Seat.look_at.Given as goal

abbrev pub invariant-loop : goal.invariant-loop
invariant-loop g l = IsAt l.board l.self × IsAtWorkThere l.board l.lock l.arrival l.holds l.wake l.self
    × AreOnlyWoken (view_in l.self) l.wake × IsSame l.fn.self l.self × HoldsAsBefore l.fn.self.me l.self.me
    × StaysAwake (view_in l.fn.self) (view_in l.self)
    × ((before : List ℕ) → HasBooked before (view_in l.fn.self) → HasBooked before (view_in l.self))
    × (length l.wake ≡ length l.fn.wake)
