use Rattle.std.proofs.Common.{◌≡◌, ◌++◌, List}
use Rattle.std.specs.Vec.Iter.{into_iter_items}
use Rattle.ww_lock.specs.Holding.{Holding}
use Rattle.ww_txn.specs.Crew.{IsParted}
use Rattle.ww_txn.proofs.crew.parted.Given as goal

abbrev pub invariant-loop-pass : goal.invariant-loop-pass
invariant-loop-pass g l =
    (done : List (Holding × _)) × (l.fn.worked.items ≡ done ++ into_iter_items l.pass-iterator)
    × IsParted done l.passes.items l.values.items
