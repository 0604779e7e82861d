-- A context that was ended, since nothing was prepared, is told of as its pass.
use Rattle.std.proofs.Common.{ℕ, List, None}
use Rattle.ww_plain.specs.Transaction.{FirstDouble}
use Rattle.ww_lock.specs.Holding.{Holding}
use Rattle.ww_users.specs.Ways.{IsReturned}
use Rattle.ww_txn.specs.declared.changing.ChangeFault.{ChangeFault}
use Rattle.ww_txn.specs.declared.changing.ChangeFault.TheVariants.{PassSpent, Already, Declined, NotServed, NoMemory}
use Rattle.ww_txn.specs.Change.{Deciding, IsUndecided, IsChangeFault}

pub told_undecided : (Decides : Deciding) (s a : Holding) (list : List ℕ) (fault : ChangeFault)
    → FirstDouble list None → IsReturned s 1 a → IsUndecided Decides list a.seen fault
    → IsChangeFault Decides s list a fault
told_undecided Decides s a list PassSpent no_double back why = absurd why
told_undecided Decides s a list (Already n) no_double back why = absurd why
told_undecided Decides s a list Declined no_double back why = (no_double, back, why)
told_undecided Decides s a list (NotServed txn) no_double back why = (no_double, back, why)
told_undecided Decides s a list NoMemory no_double back why = (no_double, back, why)
