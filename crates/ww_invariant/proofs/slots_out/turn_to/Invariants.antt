use Rattle.std.proofs.Common.{◌≡◌, ◌<◌, length}
use Rattle.ww_invariant.specs.Out.{numbers_of, AreTurned}
use Rattle.ww_invariant.proofs.slots_out.turn_to.Given as goal

abbrev pub invariant-loop : goal.invariant-loop
invariant-loop l = (l.seat.table_id ≡ l.initial.seat.table_id) × (l.seat.id ≡ l.initial.seat.id)
    × (l.seat.me.0 ≡ l.initial.seat.me.0) × AreTurned l.initial.seat.me.1 l.seat.me.1 l.counter l.slot
    × (l.order.items ≡ numbers_of l.seat.me.1) × (length l.order.items ≡ l.end) × (l.end < 66)
