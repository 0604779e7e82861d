use Rattle.std.proofs.Common.{Result, IfErr, subst, sym}
use Rattle.ww_lock.specs.declared.interruptible.Halt.{Halt}
use Rattle.ww_lock.specs.Holding.{Holding}
use Rattle.ww_users.specs.Trips.{IsHalt}
use Rattle.ww_users.proofs.Contexts.{one_halted}
use Rattle.ww_users.proofs.context.lock_one.Goals as goal

pub returns-clause-err : goal.returns-clause-err
returns-clause-err g c = subst (λ (r : Result Holding Halt). IfErr r (IsHalt c.args.waits c.args.acquiring))
    (sym c.going_on.ensures) (one_halted c.args.waits c.args.acquiring c.args.n _ c.lock_as.ensures)
