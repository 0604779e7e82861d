use Rattle.std.proofs.Common.{◌↔◌, IsTrue, [], refl, subst}
use Rattle.ww_queue.specs.Queue.{Stands}
use Rattle.ww_model.specs.Snapshot.{Snapshot, state_of, StandsSome}
use Rattle.ww_model.proofs.Slots.{any_tells}
use Rattle.ww_model.proofs.Waiters.{has_waiter, waiter_stands, stands_waiter}
use Rattle.ww_model.proofs.state.Core.waits_some.Goals as goal

pub returns : goal.returns
returns c = subst (λ (s : Snapshot). IsTrue c.any_has_waiter.result ↔ StandsSome (state_of s) c.args.seat) c.self.view_is
    (rw (c.any_has_waiter.ensures, c.deref.ensures.value)
    (any_tells (has_waiter c.args.seat) c.self.inside.queues.items [] (λ q. Stands q c.args.seat) refl
    (waiter_stands c.args.seat) (stands_waiter c.args.seat)))
