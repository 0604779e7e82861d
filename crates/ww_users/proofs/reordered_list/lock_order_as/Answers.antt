use Rattle.std.proofs.Common.{◌∙◌, ℕ, List, ◌∷◌, None, ap, rules}
use Rattle.std.proofs.lemmas.Result.{err_from_is_err_and}
use Rattle.ww_users.proofs.Contexts.{context_later, failed_refused}
use Rattle.ww_users.proofs.Orders.{order_below, order_among, order_goes_on, order_refused}
use Rattle.ww_users.proofs.reordered_list.lock_order_as.Goals as goal

pub returns-in_err-acquiring : goal.returns-in_err-acquiring
returns-in_err-acquiring g c =
    let p = err_from_is_err_and c.from_residual.result c.from_residual.ensures.1 in
    rw (p.1, p.2) (c.in_err-acquiring.ensures.spent c.args.waits c.args.list.now)

pub returns-in_err-acquiring-in-Deadlk : goal.returns-in_err-acquiring-in-Deadlk
returns-in_err-acquiring-in-Deadlk g c = let residual = c.from_residual-in_err-acquiring-in-Deadlk in
    let p = err_from_is_err_and residual.result residual.ensures.1 in
    let context = context_later c.loop.invariant.2 c.in-Deadlk.ensures.0 in
    rw (p.1, p.2) (c.in_err-acquiring-in-Deadlk.ensures c.args.pass c.args.list.now context)

pub lock_entries-requires-clause-may : goal.lock_entries-requires-clause-may
lock_entries-requires-clause-may g c = record {
  home = search rules;
  nodes = rw c.deref.ensures.0 (order_below c.args.list.now c.loop.order.items _ c.loop.invariant.4 c.requires.may.nodes);
}

pub returns-in-Through : goal.returns-in-Through
returns-in-Through g c =
    let through = rw c.deref.ensures.0 at c.in-Through.ensures in
    rw c.done.ensures (
      context_later c.loop.invariant.2 through.0,
      (
        λ n. through.1.0 n ∙ order_among c.args.list.now c.loop.order.items n c.loop.invariant.4,
        c.loop.invariant.4.double None through.1.1,
      ),
    )

pub returns-in-Failed : goal.returns-in-Failed
returns-in-Failed g c =
    let failed = failed_refused c.args.waits _ _ _ c.loop.kept _ c.loop.invariant.2 c.in-Failed.ensures c.give_up.ensures in
    order_refused c.args.waits c.args.pass _ c.args.list.now c.loop.order.items _ c.loop.invariant.4 (rw c.deref.ensures.0 at failed)

pub loop-preserved : goal.loop-preserved
loop-preserved g c =
    let context = context_later c.loop.invariant.2 c.in-Deadlk.ensures.0 in
    let again = c.in_ok-acquiring-in-Deadlk.ensures c.args.pass c.args.list.now context in
    let moved = c.insert.ensures.items ∙ ap (λ (ns : List ℕ). c.contended-contended.result ∷ ns) c.remove.ensures.items in
    let goes_on = order_goes_on c.args.list.now c.loop.order.items c.in-Deadlk.position c.in-Deadlk.backoff _ c.loop.invariant.4
    (rw c.deref.ensures.0 at c.in-Deadlk.ensures.1) again.1 in
    (tt, tt, again.0, rw (moved, c.contended-contended.ensures) goes_on.0, rw (moved, c.contended-contended.ensures) goes_on.1)
