use Rattle.std.proofs.Common.{◌∙◌, ap, refl}
use Rattle.ww_lock.specs.Holding.{Holding}
use Rattle.ww_lock.specs.Moves.{interrupted_by, emptied}
use Rattle.ww_users.specs.Ways.{IsSameContext}
use Rattle.ww_users.proofs.Contexts.{same_itself, same_later, same_taken, context_later, halted_refused}
use Rattle.ww_users.proofs.context.back_off.Goals as goal

pub returns-in-Ok : goal.returns-in-Ok
returns-in-Ok g c = λ pass list context.
    let empty : IsSameContext c.args.backoff.holding (emptied c.args.backoff.holding) = record { rest = refl; told = refl; size = refl } in
    let taken = rw c.unlock_all.ensures at c.in-Ok.ensures.taken in
    (context_later context (same_later empty (same_taken taken)), rw c.unlock_all.ensures at c.in-Ok.ensures.alone)

pub returns-in-Err : goal.returns-in-Err
returns-in-Err g c = λ pass list context.
    let halted = interrupted_by c.args.backoff.holding c.args.backoff.contended c.in-Err.by in
    let told = (rw c.unlock_all.ensures at c.in-Err.ensures.interrupted).told in
    halted_refused c.args.waits halted _ c.in-Err.by context (c.in-Err.ensures.waits, (c.args.backoff.contended, same_itself halted))
    (◌∙◌ {b = record c.in-Err.contended.holding { stamp = 0 }} c.fini.ensures (ap (λ (d : Holding). record d { stamp = 0 }) told))
