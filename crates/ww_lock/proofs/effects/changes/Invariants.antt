use Rattle.ww_plain.specs.Footprint.{footprint_of}
use Rattle.ww_plain.specs.Transaction.{transaction_of}
use Rattle.ww_plain.specs.Meaning.{graph_after}
use Rattle.ww_lock.proofs.Footprints.{IsGoingBack}
use Rattle.ww_lock.proofs.effects.changes.Given as goal

abbrev pub invariant-loop-change : goal.invariant-loop-change
invariant-loop-change l =
    let txn = transaction_of l.fn.txn in
    IsGoingBack l.fn.graph (graph_after l.fn.graph txn) (footprint_of l.fn.graph txn) l.change-index l.change-items l.graph
