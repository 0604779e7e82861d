use Rattle.ww_model.specs.Core.{snapshot_of}
use Rattle.ww_model.proofs.Effects.{did_cancel}
use Rattle.ww_model.proofs.state.Core.cancel.Goals as goal

pub invariant_of-self : goal.invariant_of-self
invariant_of-self c = (did_cancel c.args.self.now (snapshot_of c.self.inside) c.self.view_is c.self.invariant
    c.args.seat c.args.victim (c.can_cancel.ensures.0 c.if-not-can_cancel.false)).core

pub returns : goal.returns
returns c = (did_cancel c.args.self.now (snapshot_of c.self.inside) c.self.view_is c.self.invariant c.args.seat
    c.args.victim (c.can_cancel.ensures.0 c.if-not-can_cancel.false)).steps
