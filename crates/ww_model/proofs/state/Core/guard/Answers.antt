use Rattle.ww_model.specs.Core.{snapshot_of}
use Rattle.ww_model.proofs.Effects.{did_guard}
use Rattle.ww_model.proofs.state.Core.guard.Goals as goal

pub invariant_of-self : goal.invariant_of-self
invariant_of-self c = (did_guard c.args.self.now (snapshot_of c.self.inside) c.self.view_is c.self.invariant
    c.args.seat c.args.lock (c.can_guard.ensures.0 c.if-not-can_guard.false)).core

pub returns : goal.returns
returns c = (did_guard c.args.self.now (snapshot_of c.self.inside) c.self.view_is c.self.invariant c.args.seat
    c.args.lock (c.can_guard.ensures.0 c.if-not-can_guard.false)).steps
