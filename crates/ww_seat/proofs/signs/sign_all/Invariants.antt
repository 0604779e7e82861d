use Rattle.std.proofs.Common.{ℕ, ◌≡◌, ◌+◌, ◌-◌, ◌++◌, length, List, Option, Some, None}
use Rattle.ww_queue.specs.Rules.{owed_signs}
use Rattle.ww_view.specs.declared.view.View.{View}
use Rattle.ww_invariant.specs.Rule.{first_graph}
use Rattle.ww_table.specs.Seat.{IsSeated}
use Rattle.ww_seat.specs.Work.{AreMarked, HasToWake, HasNoted}
use Rattle.ww_seat.proofs.Signing.{left_of}
use Rattle.ww_seat.proofs.signs.sign_all.Given as goal

abbrev pub turns_left : View → Option ℕ → ℕ
turns_left v None = 0
turns_left v (Some n) = length v.list - n + 1

abbrev pub invariant-loop-next : goal.invariant-loop-next
invariant-loop-next l = IsSeated l.board.table.shared.table_id l.seat
    × ((done : List (ℕ × ℕ)) × HasNoted (length (first_graph l.board.table.shared.key)) done l.fn.seat.seat.me l.seat.seat.me
    × (done ++ left_of l.fn.seat.seat.me.0.part.core l.seen l.next
    ≡ owed_signs l.fn.seat.seat.me.0.part.core.kind l.seen l.fn.seat.seat.me.0.part.core.list l.fn.seat.seat.me.0.part.core.who))
    × (l.seat.records ≡ l.fn.seat.records)
    × AreMarked l.fn.wake (HasToWake l.seat.seat.me.0.part.core) l.wake × (length l.wake ≡ length l.fn.wake)

abbrev pub decreases-loop-next : goal.decreases-loop-next
decreases-loop-next l = turns_left l.fn.seat.seat.me.0.part.core l.next
