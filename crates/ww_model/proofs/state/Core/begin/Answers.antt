use Rattle.ww_model.specs.Core.{snapshot_of}
use Rattle.ww_model.proofs.Effects.{did_begin}
use Rattle.ww_model.proofs.state.Core.begin.Goals as goal

pub invariant_of-self : goal.invariant_of-self
invariant_of-self c = (did_begin c.args.self.now (snapshot_of c.self.inside) c.self.view_is c.self.invariant
    c.args.seat (c.can_begin.ensures.0 c.if-not-can_begin.false)).core

pub returns : goal.returns
returns c = (did_begin c.args.self.now (snapshot_of c.self.inside) c.self.view_is c.self.invariant c.args.seat
    (c.can_begin.ensures.0 c.if-not-can_begin.false)).steps
