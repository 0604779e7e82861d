use Rattle.std.proofs.Common.{sym, subst, arith}
use Rattle.ww_model.specs.declared.event.Event.TheVariants.{Clear}
use Rattle.ww_model.specs.Event.{Possible}
use Rattle.ww_model.specs.Core.{snapshot_of}
use Rattle.ww_model.specs.Snapshot.{Snapshot, state_of}
use Rattle.ww_model.proofs.Ranges.{cleared_seat}
use Rattle.ww_model.proofs.Effects.{did_clear}
use Rattle.ww_model.proofs.state.Core.clear.Goals as goal

pub invariant_of-self : goal.invariant_of-self
invariant_of-self c = let seat = cleared_seat (state_of (snapshot_of c.self.inside)) c.args.seat
    (subst (λ (s : Snapshot). Possible (state_of s) (Clear c.args.seat)) (sym c.self.view_is)
    (c.can_clear.ensures.0 c.if-not-can_clear.false)) in
    (did_clear c.args.self.now (snapshot_of c.self.inside) c.self.view_is c.self.invariant c.args.seat
    (omega (arith, seat, c.self.invariant.sizes.signs)) (c.can_clear.ensures.0 c.if-not-can_clear.false)).core

pub returns : goal.returns
returns c = let seat = cleared_seat (state_of (snapshot_of c.self.inside)) c.args.seat
    (subst (λ (s : Snapshot). Possible (state_of s) (Clear c.args.seat)) (sym c.self.view_is)
    (c.can_clear.ensures.0 c.if-not-can_clear.false)) in
    (did_clear c.args.self.now (snapshot_of c.self.inside) c.self.view_is c.self.invariant c.args.seat
    (omega (arith, seat, c.self.invariant.sizes.signs)) (c.can_clear.ensures.0 c.if-not-can_clear.false)).steps
