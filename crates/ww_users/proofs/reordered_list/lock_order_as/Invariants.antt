use Rattle.ww_users.specs.Ways.{IsContext}
use Rattle.ww_users.specs.Trips.{HoldsKept, IsReordered}
use Rattle.ww_users.proofs.reordered_list.lock_order_as.Given as goal

abbrev pub invariant-loop : goal.invariant-loop
invariant-loop g l =
    (goal.iterator-loop g).can_next l.iterator' × (goal.iterator-loop g).is_finite l.iterator'
    × IsContext l.fn.pass l.acquiring × HoldsKept l.kept l.order.items l.acquiring × IsReordered l.list l.order.items
