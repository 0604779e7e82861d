use Rattle.ww_model.specs.Core.{snapshot_of}
use Rattle.ww_model.proofs.Effects.{did_unguard}
use Rattle.ww_model.proofs.state.Core.unguard.Goals as goal

pub invariant_of-self : goal.invariant_of-self
invariant_of-self c = (did_unguard c.args.self.now (snapshot_of c.self.inside) c.self.view_is c.self.invariant
    c.args.seat c.args.lock (c.can_unguard.ensures.0 c.if-not-can_unguard.false)).core

pub returns : goal.returns
returns c = (did_unguard c.args.self.now (snapshot_of c.self.inside) c.self.view_is c.self.invariant c.args.seat
    c.args.lock (c.can_unguard.ensures.0 c.if-not-can_unguard.false)).steps
