use Rattle.ww_model.specs.Core.{snapshot_of}
use Rattle.ww_model.proofs.Effects.{did_commit}
use Rattle.ww_model.proofs.state.Core.commit.Goals as goal

pub invariant_of-self : goal.invariant_of-self
invariant_of-self c = (did_commit c.args.self.now (snapshot_of c.self.inside) c.self.view_is c.self.invariant
    c.args.seat (c.can_commit.ensures.0 c.if-not-can_commit.false)).core

pub returns : goal.returns
returns c = (did_commit c.args.self.now (snapshot_of c.self.inside) c.self.view_is c.self.invariant c.args.seat
    (c.can_commit.ensures.0 c.if-not-can_commit.false)).steps
