use Rattle.std.proofs.Common.{◌∙◌, ap, sym, unwrap_or}
use Rattle.ww_model.specs.State.{dies}
use Rattle.ww_model.specs.Core.{snapshot_of}
use Rattle.ww_model.specs.Snapshot.{Snapshot, state_of}
use Rattle.ww_model.proofs.Effects.{did_die}
use Rattle.ww_model.proofs.state.Core.die.Goals as goal

pub invariant_of-self : goal.invariant_of-self
invariant_of-self c = (did_die c.args.self.now (snapshot_of c.self.inside) c.self.view_is c.self.invariant
    c.args.seat c.args.lock c.depart.new.queues.items c.depart.new.asked.items c.unwrap_or-stamp.result
    c.depart.ensures.list c.depart.ensures.flag
    (c.unwrap_or-stamp.ensures ∙ ap (λ o. unwrap_or o 0)
    (c.dies.ensures ∙ ap (λ (s : Snapshot). dies (state_of s) c.args.seat c.args.lock) (sym c.self.view_is)))
    (c.can_die.ensures.0 c.if-not-can_die.false)).core

pub returns : goal.returns
returns c = (did_die c.args.self.now (snapshot_of c.self.inside) c.self.view_is c.self.invariant c.args.seat
    c.args.lock c.depart.new.queues.items c.depart.new.asked.items c.unwrap_or-stamp.result
    c.depart.ensures.list c.depart.ensures.flag
    (c.unwrap_or-stamp.ensures ∙ ap (λ o. unwrap_or o 0)
    (c.dies.ensures ∙ ap (λ (s : Snapshot). dies (state_of s) c.args.seat c.args.lock) (sym c.self.view_is)))
    (c.can_die.ensures.0 c.if-not-can_die.false)).steps
