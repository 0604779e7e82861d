use Rattle.std.proofs.Common.{◌+◌, ◌≤◌, length, map, vec_capacity}
use Rattle.std.specs.Vec.Iter.{into_iter_items}
use Rattle.ww_script.specs.Acts.{deed_of}
use Rattle.ww_script.specs.Said.{said_of}
use Rattle.ww_run.proofs.Acts.{IsUnderWay}
use Rattle.ww_run.proofs.worker.run_script.Given as goal

abbrev pub invariant-loop-act : goal.invariant-loop-act
invariant-loop-act g l =
    (length l.answers.items + length (into_iter_items l.act-iterator) ≤ vec_capacity l.answers)
    × IsUnderWay l.world l.fn.pass.caller (map deed_of l.fn.acts.items)
    (map deed_of (into_iter_items l.act-iterator)) (map said_of l.answers.items) l.pass
