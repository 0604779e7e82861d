use Rattle.std.proofs.Common.{ℕ, sym, subst}
use Rattle.ww_table.specs.Made.{AreNew}
use Rattle.ww_table.proofs.Making.{new_come}
use Rattle.ww_tests_below.proofs.tables.at_once.Goals as goal

pub closed-requires : goal.closed-requires
closed-requires g c = let m = c.in_ok-board.ensures in
    new_come _ _ _ (subst (λ (n : ℕ). AreNew c.in_ok-board.board.table.shared.table_id
    c.in_ok-board.board.table.shared.key n c.in_ok-board.seats.items) (sym m.count_is) m.seats_are)
