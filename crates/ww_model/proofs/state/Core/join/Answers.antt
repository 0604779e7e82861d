use Rattle.std.proofs.Common.{ℕ, ◌<◌, List, [], length, sym, ap, ◌∙◌, subst, arith}
use Rattle.ww_queue.specs.declared.entry.Entry.{Entry}
use Rattle.ww_queue.specs.Queue.{IsNewStamp, joined}
use Rattle.ww_model.specs.declared.event.Event.TheVariants.{Join}
use Rattle.ww_model.specs.Event.{Possible}
use Rattle.ww_model.specs.State.{waiter_of}
use Rattle.ww_model.specs.Core.{snapshot_of}
use Rattle.ww_model.specs.Snapshot.{Snapshot, state_of}
use Rattle.ww_model.proofs.Slots.{slot_at}
use Rattle.ww_model.proofs.Ranges.{has_room, new_stamp}
use Rattle.ww_model.proofs.Effects.{did_join}
use Rattle.ww_model.proofs.state.Core.join.Goals as goal

pub join-requires-clause-room : goal.join-requires-clause-room
join-requires-clause-room c = let can =
    subst (λ (s : Snapshot). Possible (state_of s) (Join c.args.seat c.args.lock)) (sym c.self.view_is)
    (c.can_join.ensures.0 c.if-not-can_join.false) in
    let lock = can.base.inside.lock in
    subst (λ (q : List Entry). length q < 16)
    (sym (slot_at c.self.inside.queues.items c.args.lock c.index_mut.result.now []
    (omega (arith, lock, c.self.invariant.sizes.queues)) c.index_mut.ensures.value))
    (has_room (state_of (snapshot_of c.self.inside)) c.self.invariant.reached c.self.invariant.sizes.seats
    c.args.lock c.args.seat can.base.inside.seat can.base.not_waiting)

pub join-requires-clause-stamp : goal.join-requires-clause-stamp
join-requires-clause-stamp c = let can =
    subst (λ (s : Snapshot). Possible (state_of s) (Join c.args.seat c.args.lock)) (sym c.self.view_is)
    (c.can_join.ensures.0 c.if-not-can_join.false) in
    let lock = can.base.inside.lock in
    let stamp = ap (λ (e : Entry). e.stamp) c.waiter_of-waiter.ensures
    ∙ ap (λ (s : Snapshot). (state_of s).stamp c.args.seat) (sym c.self.view_is) in
    subst (λ (k : ℕ). IsNewStamp c.index_mut.result.now k) (sym stamp)
    (subst (λ (q : List Entry). IsNewStamp q ((state_of (snapshot_of c.self.inside)).stamp c.args.seat))
    (sym (slot_at c.self.inside.queues.items c.args.lock c.index_mut.result.now []
    (omega (arith, lock, c.self.invariant.sizes.queues)) c.index_mut.ensures.value))
    (new_stamp (state_of (snapshot_of c.self.inside)) c.self.invariant.reached c.args.lock c.args.seat can.base.not_waiting))

pub invariant_of-self : goal.invariant_of-self
invariant_of-self c = let lock = (subst (λ (s : Snapshot). Possible (state_of s) (Join c.args.seat c.args.lock))
    (sym c.self.view_is) (c.can_join.ensures.0 c.if-not-can_join.false)).base.inside.lock in
    (did_join c.args.self.now (snapshot_of c.self.inside) c.self.view_is c.self.invariant c.args.seat c.args.lock c.join.new.self
    (c.join.ensures ∙ ap (λ q. joined q c.waiter_of-waiter.result)
    (slot_at c.self.inside.queues.items c.args.lock c.index_mut.result.now []
    (omega (arith, lock, c.self.invariant.sizes.queues)) c.index_mut.ensures.value)
    ∙ ap (joined ((state_of (snapshot_of c.self.inside)).queue c.args.lock))
    (c.waiter_of-waiter.ensures ∙ ap (λ (s : Snapshot). waiter_of (state_of s) c.args.seat) (sym c.self.view_is)))
    (c.can_join.ensures.0 c.if-not-can_join.false)).core

pub returns : goal.returns
returns c = let lock = (subst (λ (s : Snapshot). Possible (state_of s) (Join c.args.seat c.args.lock))
    (sym c.self.view_is) (c.can_join.ensures.0 c.if-not-can_join.false)).base.inside.lock in
    (did_join c.args.self.now (snapshot_of c.self.inside) c.self.view_is c.self.invariant c.args.seat c.args.lock c.join.new.self
    (c.join.ensures ∙ ap (λ q. joined q c.waiter_of-waiter.result)
    (slot_at c.self.inside.queues.items c.args.lock c.index_mut.result.now []
    (omega (arith, lock, c.self.invariant.sizes.queues)) c.index_mut.ensures.value)
    ∙ ap (joined ((state_of (snapshot_of c.self.inside)).queue c.args.lock))
    (c.waiter_of-waiter.ensures ∙ ap (λ (s : Snapshot). waiter_of (state_of s) c.args.seat) (sym c.self.view_is)))
    (c.can_join.ensures.0 c.if-not-can_join.false)).steps
