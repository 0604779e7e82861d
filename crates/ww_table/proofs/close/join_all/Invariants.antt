use Rattle.std.proofs.Common.{◌≡◌, ◌++◌, List, true, length}
use Rattle.ww_table.specs.declared.seat.Stepper.{Stepper}
use Rattle.ww_table.specs.Closed.{IsGathered}
use Rattle.ww_table.proofs.close.join_all.Given as goal

abbrev pub invariant-loop-seat : goal.invariant-loop-seat
invariant-loop-seat l =
    (goal.iterator-loop-seat).can_next l.seat-iterator × (goal.iterator-loop-seat).is_finite l.seat-iterator
    × (l.token.table_id ≡ l.shared.table_id) × (l.token.me.0.seated ≡ true)
    × (length l.places ≡ length l.initial.places)
    × (l.yielded ++ l.seat-iterator.rest.items ≡ l.fn.seats.items)
    × ((front : List Stepper) → IsGathered l.shared.table_id front (length l.initial.places) l.initial.token
    l.initial.places → IsGathered l.shared.table_id (front ++ l.yielded) (length l.initial.places) l.token
    l.places)
