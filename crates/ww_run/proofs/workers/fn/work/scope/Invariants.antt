use Rattle.std.proofs.Common.{◌≡◌, length, vec_capacity}
use Rattle.std.specs.Vec.Iter.{into_iter_items, into_iter_len}
use Rattle.ww_run.proofs.Starts.{IsStarting}
use Rattle.ww_run.proofs.workers.fn.work.scope.Given as goal

abbrev pub invariant-loop-pass : goal.invariant-loop-pass
invariant-loop-pass g l =
    (into_iter_len l.pass-iterator ≡ length (into_iter_items l.pass-iterator))
    × IsStarting l.world.now (into_iter_items l.initial.rest) (into_iter_items l.rest)
    (into_iter_items l.pass-iterator) l.workers.items (vec_capacity l.workers) l.is_short
