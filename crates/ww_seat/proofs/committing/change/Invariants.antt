use Rattle.std.proofs.Common.{◌≡◌, ℕ, List, Option, map, drop}
use Rattle.ww_plain.specs.declared.node.Node.{Node}
use Rattle.ww_table.specs.Seat.{IsSeated, size_of}
use Rattle.ww_seat.specs.Orderly.{IsOrderly}
use Rattle.ww_seat.specs.Commits.{naming, change_at, IsChanged}
use Rattle.ww_seat.proofs.committing.change.Given as goal

abbrev pub invariant-loop-at : goal.invariant-loop-at
invariant-loop-at l = record {
  seated : IsSeated l.board.table.shared.table_id l.seat;
  view : l.seat.seat.me.0 ≡ l.fn.seat.seat.me.0;
  records : l.seat.records ≡ l.fn.seat.records;
  changed : (held : List (Option Node)) (before after : List Node) (ns : List ℕ)
      → l.changes ≡ map (change_at before after) ns → IsOrderly (size_of l.board) (naming l.fn.seat.seat.me held)
      → IsChanged (size_of l.board) held after (drop l.at ns) l.seat.seat.me;
}
