use Rattle.std.specs.Vec.Iter.{into_iter_items}
use Rattle.std.specs.List.{AllByRecursion}
use Rattle.ww_table.specs.Closed.{HasCome}
use Rattle.ww_tests_below.specs.Gathered.{HaveCome}
use Rattle.ww_tests_below.proofs.rounds.apart.Given as goal

abbrev pub invariant-loop-seat : goal.invariant-loop-seat
invariant-loop-seat g l = HaveCome l.board l.seats.items
    × AllByRecursion (λ w. HasCome l.board.table.shared.table_id w.seat) (into_iter_items l.seat-iterator)
