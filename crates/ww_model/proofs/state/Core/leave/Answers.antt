use Rattle.std.proofs.Common.{ℕ, ◌-◌, ◌∙◌, ap, sym}
use Rattle.ww_model.specs.Core.{snapshot_of}
use Rattle.ww_model.specs.Snapshot.{Snapshot, state_of}
use Rattle.ww_model.proofs.Effects.{did_leave}
use Rattle.ww_model.proofs.state.Core.leave.Goals as goal

pub invariant_of-self : goal.invariant_of-self
invariant_of-self c = (did_leave c.args.self.now (snapshot_of c.self.inside) c.self.view_is c.self.invariant
    c.args.seat c.args.lock c.depart.new.queues.items c.depart.new.asked.items (c.heeded_at-canceller.result - 1)
    c.depart.ensures.list c.depart.ensures.flag
    (ap (λ (k : ℕ). k - 1) (c.heeded_at-canceller.ensures ∙ ap (λ (s : Snapshot). (state_of s).heeded c.args.seat) (sym c.self.view_is)))
    (c.can_leave.ensures.0 c.if-not-can_leave.false)).core

pub returns : goal.returns
returns c = (did_leave c.args.self.now (snapshot_of c.self.inside) c.self.view_is c.self.invariant c.args.seat
    c.args.lock c.depart.new.queues.items c.depart.new.asked.items (c.heeded_at-canceller.result - 1)
    c.depart.ensures.list c.depart.ensures.flag
    (ap (λ (k : ℕ). k - 1) (c.heeded_at-canceller.ensures ∙ ap (λ (s : Snapshot). (state_of s).heeded c.args.seat) (sym c.self.view_is)))
    (c.can_leave.ensures.0 c.if-not-can_leave.false)).steps
