use Rattle.std.proofs.Common.{[], sym, ap, ◌∙◌, subst, arith}
use Rattle.ww_queue.specs.Queue.{left}
use Rattle.ww_model.specs.declared.event.Event.TheVariants.{Take}
use Rattle.ww_model.specs.Event.{Possible}
use Rattle.ww_model.specs.Core.{snapshot_of}
use Rattle.ww_model.specs.Snapshot.{Snapshot, state_of}
use Rattle.ww_model.proofs.Slots.{slot_at}
use Rattle.ww_model.proofs.Effects.{did_take}
use Rattle.ww_model.proofs.state.Core.take.Goals as goal

pub invariant_of-self : goal.invariant_of-self
invariant_of-self c = let lock = (subst (λ (s : Snapshot). Possible (state_of s) (Take c.args.seat c.args.lock))
    (sym c.self.view_is) (c.can_take.ensures.0 c.if-not-can_take.false)).base.inside.lock in
    (did_take c.args.self.now (snapshot_of c.self.inside) c.self.view_is c.self.invariant c.args.seat c.args.lock
    c.leave.new.self (c.leave.ensures.rest
    ∙ ap (λ q. left q c.args.seat) (slot_at c.self.inside.queues.items c.args.lock c.index_mut.result.now []
    (omega (arith, lock, c.self.invariant.sizes.queues)) c.index_mut.ensures.value))
    (c.can_take.ensures.0 c.if-not-can_take.false)).core

pub returns : goal.returns
returns c = let lock = (subst (λ (s : Snapshot). Possible (state_of s) (Take c.args.seat c.args.lock))
    (sym c.self.view_is) (c.can_take.ensures.0 c.if-not-can_take.false)).base.inside.lock in
    (did_take c.args.self.now (snapshot_of c.self.inside) c.self.view_is c.self.invariant c.args.seat c.args.lock
    c.leave.new.self (c.leave.ensures.rest
    ∙ ap (λ q. left q c.args.seat) (slot_at c.self.inside.queues.items c.args.lock c.index_mut.result.now []
    (omega (arith, lock, c.self.invariant.sizes.queues)) c.index_mut.ensures.value))
    (c.can_take.ensures.0 c.if-not-can_take.false)).steps
