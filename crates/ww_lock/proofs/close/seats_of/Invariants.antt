use Rattle.std.proofs.Common.{◌≡◌, ◌≤◌, ◌++◌, length}
use Rattle.std.specs.Prelude.{vec_len, vec_capacity}
use Rattle.ww_lock.specs.Closed.{AreSeatsOf}
use Rattle.ww_lock.proofs.close.seats_of.Given as goal

abbrev pub invariant-loop-pass : goal.invariant-loop-pass
invariant-loop-pass l =
    (goal.iterator-loop-pass).can_next l.pass-iterator × (goal.iterator-loop-pass).is_finite l.pass-iterator
    × (l.yielded ++ l.pass-iterator.rest.items ≡ l.fn.passes.items)
    × AreSeatsOf l.yielded l.seats.items × (vec_len l.seats ≡ length l.yielded) × (length l.fn.passes.items ≤ vec_capacity l.seats)
