use Rattle.std.proofs.Common.{[], subst}
use Rattle.std.proofs.lemmas.Result.{err_from_is_err_and}
use Rattle.ww_lock.specs.declared.interruptible.Halt.{Halt}
use Rattle.ww_users.specs.Trips.{IsHalt}
use Rattle.ww_users.proofs.Contexts.{context_later, halted_refused}
use Rattle.ww_users.proofs.walk.lock_walk_as.Goals as goal

pub returns-in_err-acquiring : goal.returns-in_err-acquiring
returns-in_err-acquiring g c =
    let p = err_from_is_err_and c.from_residual.result c.from_residual.ensures.1 in
    rw (p.1, p.2) (c.in_err-acquiring.ensures.spent c.args.waits [])

pub returns-in-Err-Interrupted : goal.returns-in-Err-Interrupted
returns-in-Err-Interrupted g c =
    let told = subst (λ (why : Halt). IsHalt c.args.waits c.loop.acquiring why) c.in-Err-Interrupted.field-0-is c.in-Err-Interrupted.ensures.err in
    halted_refused c.args.waits _ _ _ c.loop.invariant.2 told c.give_up.ensures

pub returns-in_err-acquiring-in-Err-Deadlk : goal.returns-in_err-acquiring-in-Err-Deadlk
returns-in_err-acquiring-in-Err-Deadlk g c = let residual = c.from_residual-in_err-acquiring-in-Err-Deadlk in
    let p = err_from_is_err_and residual.result residual.ensures.1 in
    let told = subst (λ (why : Halt). IsHalt c.args.waits c.loop.acquiring why) c.in-Err-Deadlk.field-0-is c.in-Err-Deadlk.ensures.err in
    rw (p.1, p.2) (c.in_err-acquiring-in-Err-Deadlk.ensures c.args.pass [] (context_later c.loop.invariant.2 told))

pub loop-preserved : goal.loop-preserved
loop-preserved g c =
    let told = subst (λ (why : Halt). IsHalt c.args.waits c.loop.acquiring why) c.in-Err-Deadlk.field-0-is c.in-Err-Deadlk.ensures.err in
    (tt, tt, (c.in_ok-acquiring-in-Err-Deadlk.ensures c.args.pass [] (context_later c.loop.invariant.2 told)).0)
