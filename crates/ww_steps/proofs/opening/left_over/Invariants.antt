use Rattle.std.proofs.Common.{◌≡◌, ◌++◌, map, Some}
use Rattle.ww_steps.proofs.opening.left_over.Given as goal

abbrev pub invariant-loop-ticket : goal.invariant-loop-ticket
invariant-loop-ticket l =
    (goal.iterator-loop-ticket).can_next l.ticket-iterator × (goal.iterator-loop-ticket).is_finite l.ticket-iterator
    × (l.yielded ++ l.ticket-iterator.rest.items ≡ l.fn.tickets.items) × (l.all.items ≡ map Some l.yielded)
