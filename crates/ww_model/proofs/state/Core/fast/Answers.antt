use Rattle.ww_model.specs.Core.{snapshot_of}
use Rattle.ww_model.proofs.Effects.{did_fast}
use Rattle.ww_model.proofs.state.Core.fast.Goals as goal

pub invariant_of-self : goal.invariant_of-self
invariant_of-self c = (did_fast c.args.self.now (snapshot_of c.self.inside) c.self.view_is c.self.invariant
    c.args.seat c.args.lock (c.can_fast.ensures.0 c.if-not-can_fast.false)).core

pub returns : goal.returns
returns c = (did_fast c.args.self.now (snapshot_of c.self.inside) c.self.view_is c.self.invariant c.args.seat
    c.args.lock (c.can_fast.ensures.0 c.if-not-can_fast.false)).steps
