use Rattle.ww_model.specs.Core.{snapshot_of}
use Rattle.ww_model.proofs.Effects.{did_end}
use Rattle.ww_model.proofs.state.Core.end.Goals as goal

pub invariant_of-self : goal.invariant_of-self
invariant_of-self c = (did_end c.args.self.now (snapshot_of c.self.inside) c.self.view_is c.self.invariant
    c.args.seat (c.can_end.ensures.0 c.if-not-can_end.false)).core

pub returns : goal.returns
returns c = (did_end c.args.self.now (snapshot_of c.self.inside) c.self.view_is c.self.invariant c.args.seat
    (c.can_end.ensures.0 c.if-not-can_end.false)).steps
