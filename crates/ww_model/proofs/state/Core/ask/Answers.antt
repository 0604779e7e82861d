use Rattle.ww_model.specs.Core.{snapshot_of}
use Rattle.ww_model.proofs.Effects.{did_ask}
use Rattle.ww_model.proofs.state.Core.ask.Goals as goal

pub invariant_of-self : goal.invariant_of-self
invariant_of-self c = (did_ask c.args.self.now (snapshot_of c.self.inside) c.self.view_is c.self.invariant
    c.args.seat c.args.lock (c.can_ask.ensures.0 c.if-not-can_ask.false)).core

pub returns : goal.returns
returns c = (did_ask c.args.self.now (snapshot_of c.self.inside) c.self.view_is c.self.invariant c.args.seat
    c.args.lock (c.can_ask.ensures.0 c.if-not-can_ask.false)).steps
