use Rattle.std.proofs.Common.{◌≡◌, ◌≤◌, ◌++◌, length, map, drop}
use Rattle.std.specs.Prelude.{vec_len, vec_capacity}
use Rattle.ww_invariant.specs.Rule.{first_graph}
use Rattle.ww_seat.specs.Bells.{leads_to}
use Rattle.ww_lock.specs.Opened.{home_at, AreFresh, AreRests}
use Rattle.ww_lock.proofs.world.fresh.Given as goal

abbrev pub invariant-loop-seat : goal.invariant-loop-seat
invariant-loop-seat l =
    (goal.iterator-loop-seat).can_next l.seat-iterator × (goal.iterator-loop-seat).is_finite l.seat-iterator
    × (l.yielded ++ l.seat-iterator.rest.items ≡ l.fn.seats.items)
    × AreRests (first_graph l.board.table.shared.key) (drop (length l.yielded) (map leads_to l.wires)) l.rests.items
    × AreFresh l.all.items (first_graph l.board.table.shared.key) (home_at l.board l.wires) (length l.yielded) l.budget
    × (vec_len l.all ≡ length l.yielded) × (length l.fn.seats.items ≤ vec_capacity l.all)
