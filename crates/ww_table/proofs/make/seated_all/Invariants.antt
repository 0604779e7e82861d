use Rattle.std.proofs.Common.{◌≡◌, ◌≤◌, ◌++◌, length}
use Rattle.std.specs.Prelude.{vec_len, vec_capacity}
use Rattle.ww_table.specs.Made.{AreNew}
use Rattle.ww_table.proofs.make.seated_all.Given as goal

abbrev pub invariant-loop-ticket : goal.invariant-loop-ticket
invariant-loop-ticket l =
    (goal.iterator-loop-ticket).can_next l.ticket-iterator × (goal.iterator-loop-ticket).is_finite l.ticket-iterator
    × (l.yielded ++ l.ticket-iterator.rest.items ≡ l.fn.tickets.items)
    × AreNew l.board.table.shared.table_id l.board.table.shared.key (length l.yielded) l.made.items
    × (vec_len l.made ≡ length l.yielded) × (length l.fn.tickets.items ≤ vec_capacity l.made)
