use Rattle.std.proofs.lemmas.Result.{err_from_is_err_and}
use Rattle.ww_users.proofs.Contexts.{context_later, failed_refused}
use Rattle.ww_users.proofs.Entries.{way_again}
use Rattle.ww_users.proofs.fixed_list.lock_list_as.Goals as goal

pub returns-in_err-acquiring : goal.returns-in_err-acquiring
returns-in_err-acquiring g c =
    let p = err_from_is_err_and c.from_residual.result c.from_residual.ensures.1 in
    rw (p.1, p.2) (c.in_err-acquiring.ensures.spent c.args.waits c.args.list.now)

pub returns-in_err-acquiring-in-Deadlk : goal.returns-in_err-acquiring-in-Deadlk
returns-in_err-acquiring-in-Deadlk g c = let residual = c.from_residual-in_err-acquiring-in-Deadlk in
    let p = err_from_is_err_and residual.result residual.ensures.1 in
    let context = context_later c.loop.invariant.2 c.in-Deadlk.ensures.0 in
    rw (p.1, p.2) (c.in_err-acquiring-in-Deadlk.ensures c.args.pass c.args.list.now context)

pub returns-in-Failed : goal.returns-in-Failed
returns-in-Failed g c =
    failed_refused c.args.waits _ _ c.args.list.now c.loop.kept _ c.loop.invariant.2 c.in-Failed.ensures c.give_up.ensures

pub loop-preserved : goal.loop-preserved
loop-preserved g c =
    let context = context_later c.loop.invariant.2 c.in-Deadlk.ensures.0 in
    let again = c.in_ok-acquiring-in-Deadlk.ensures c.args.pass c.args.list.now context in
    (tt, tt, again.0, way_again _ c.in-Deadlk.backoff _ c.in-Deadlk.field-1 _ c.in-Deadlk.ensures.1 c.contended.ensures again.1)
