use Rattle.std.proofs.Common.{Bool, ap, ◌∙◌, sym}
use Rattle.ww_model.specs.Event.{given_to}
use Rattle.ww_model.specs.Core.{snapshot_of}
use Rattle.ww_model.specs.Snapshot.{Snapshot, state_of}
use Rattle.ww_model.proofs.Effects.{did_give}
use Rattle.ww_model.proofs.state.Core.give.Goals as goal

pub invariant_of-self : goal.invariant_of-self
invariant_of-self c = let s = state_of (snapshot_of c.self.inside) in
    (did_give c.args.self.now (snapshot_of c.self.inside) c.self.view_is c.self.invariant c.args.seat c.args.lock
    c.given_to-next.result c.giving.result
    (c.given_to-next.ensures ∙ ap (λ (b : Bool). given_to b c.waiters_at.result.now)
    (c.is_asked.ensures ∙ ap (λ (x : Snapshot). (state_of x).asked c.args.lock) (sym c.self.view_is))
    ∙ ap (given_to (s.asked c.args.lock))
    (c.waiters_at.ensures ∙ ap (λ (x : Snapshot). (state_of x).queue c.args.lock) (sym c.self.view_is)))
    c.giving.ensures (c.can_give.ensures.0 c.if-not-can_give.false)).core

pub returns : goal.returns
returns c = let s = state_of (snapshot_of c.self.inside) in
    (did_give c.args.self.now (snapshot_of c.self.inside) c.self.view_is c.self.invariant c.args.seat c.args.lock
    c.given_to-next.result c.giving.result
    (c.given_to-next.ensures ∙ ap (λ (b : Bool). given_to b c.waiters_at.result.now)
    (c.is_asked.ensures ∙ ap (λ (x : Snapshot). (state_of x).asked c.args.lock) (sym c.self.view_is))
    ∙ ap (given_to (s.asked c.args.lock))
    (c.waiters_at.ensures ∙ ap (λ (x : Snapshot). (state_of x).queue c.args.lock) (sym c.self.view_is)))
    c.giving.ensures (c.can_give.ensures.0 c.if-not-can_give.false)).steps
