use Rattle.std.proofs.Common.{◌≡◌, length, take}
use Rattle.ww_invariant.specs.Rule.{first_graph}
use Rattle.ww_table.specs.Seat.{IsSeated}
use Rattle.ww_seat.specs.Work.{AreMarked, HasToWake, HasNoted}
use Rattle.ww_seat.proofs.signs.sign_some.Given as goal

abbrev pub invariant-loop-pair : goal.invariant-loop-pair
invariant-loop-pair l = IsSeated l.board.table.shared.table_id l.seat
    × HasNoted (length (first_graph l.board.table.shared.key)) (take l.pair-index l.owed) l.fn.seat.seat.me
    l.seat.seat.me × (l.seat.records ≡ l.fn.seat.records)
    × AreMarked l.fn.wake (HasToWake l.seat.seat.me.0.part.core) l.wake × (length l.wake ≡ length l.fn.wake)
