use Rattle.std.proofs.Common.{◌≡◌, take}
use Rattle.ww_txn.specs.Change.{values_of}
use Rattle.ww_txn.proofs.changing.read_values.Given as goal

abbrev pub invariant-loop-n : goal.invariant-loop-n
invariant-loop-n l = l.values.items ≡ values_of l.done.seen (take l.n-index l.list)
