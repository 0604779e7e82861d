use Rattle.std.proofs.Common.{◌≡◌, ◌++◌, List}
use Rattle.std.specs.Vec.Iter.{into_iter_items}
use Rattle.ww_run.specs.declared.worker.Work.{Work}
use Rattle.ww_run.specs.Workers.{AreParted}
use Rattle.ww_run.proofs.workers.parted.Given as goal

abbrev pub invariant-loop-pass : goal.invariant-loop-pass
invariant-loop-pass l =
    (done : List Work) × (l.fn.works.items ≡ done ++ into_iter_items l.pass-iterator)
    × AreParted done l.passes.items l.replies.items
