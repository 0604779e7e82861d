use Rattle.std.proofs.Common.{◌≡◌, ◌≤◌, []}
use Rattle.std.specs.Prelude.{vec_len, vec_capacity}
use Rattle.ww_table.specs.Made.{AreTickets, less}
use Rattle.ww_table.proofs.make.cut.Given as goal

abbrev pub invariant-loop-who : goal.invariant-loop-who
invariant-loop-who l = (l.first.table_id ≡ l.shared.table_id) × (l.first.me ≡ (less l.shared.key l.who, []))
    × AreTickets l.shared.table_id l.shared.key l.who l.tickets.items × (vec_len l.tickets ≡ l.who)
    × (l.seats ≤ vec_capacity l.tickets)
