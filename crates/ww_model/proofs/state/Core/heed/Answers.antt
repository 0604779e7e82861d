use Rattle.std.proofs.Common.{sym, ap, ◌∙◌}
use Rattle.ww_model.specs.Core.{snapshot_of}
use Rattle.ww_model.specs.Snapshot.{Snapshot, state_of}
use Rattle.ww_model.proofs.Effects.{did_heed}
use Rattle.ww_model.proofs.state.Core.heed.Goals as goal

pub invariant_of-self : goal.invariant_of-self
invariant_of-self c = (did_heed c.args.self.now (snapshot_of c.self.inside) c.self.view_is c.self.invariant
    c.args.seat c.args.lock c.cancel_at-canceller.result
    (c.cancel_at-canceller.ensures ∙ ap (λ (s : Snapshot). (state_of s).cancel c.args.seat) (sym c.self.view_is))
    (c.can_heed.ensures.0 c.if-not-can_heed.false)).core

pub returns : goal.returns
returns c = (did_heed c.args.self.now (snapshot_of c.self.inside) c.self.view_is c.self.invariant c.args.seat
    c.args.lock c.cancel_at-canceller.result
    (c.cancel_at-canceller.ensures ∙ ap (λ (s : Snapshot). (state_of s).cancel c.args.seat) (sym c.self.view_is))
    (c.can_heed.ensures.0 c.if-not-can_heed.false)).steps
