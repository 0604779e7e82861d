use Rattle.std.proofs.Common.{unwrap_or, sym, ap, ◌∙◌, subst, arith}
use Rattle.ww_model.specs.declared.event.Event.TheVariants.{Sign}
use Rattle.ww_model.specs.Event.{Possible, owed_to}
use Rattle.ww_model.specs.State.{owes, place_of}
use Rattle.ww_model.specs.Core.{snapshot_of}
use Rattle.ww_model.specs.Snapshot.{Snapshot, state_of}
use Rattle.ww_model.proofs.Ranges.{owed_seat}
use Rattle.ww_model.proofs.Effects.{did_sign}
use Rattle.ww_model.proofs.state.Core.sign.Goals as goal

pub index_mut-requires : goal.index_mut-requires
index_mut-requires c = let can = subst (λ (s : Snapshot). Possible (state_of s) (Sign c.args.seat c.args.victim))
    (sym c.self.view_is) (c.can_sign.ensures.0 c.if-not-can_sign.false) in
    let seat = owed_seat (state_of (snapshot_of c.self.inside)) c.self.invariant.reached
    (place_of (state_of (snapshot_of c.self.inside)) c.args.seat) c.args.seat c.args.victim can.signs.owed in
    omega (arith, seat, c.self.invariant.sizes.signs)

pub invariant_of-self : goal.invariant_of-self
invariant_of-self c = let can = subst (λ (s : Snapshot). Possible (state_of s) (Sign c.args.seat c.args.victim))
    (sym c.self.view_is) (c.can_sign.ensures.0 c.if-not-can_sign.false) in
    let seat = owed_seat (state_of (snapshot_of c.self.inside)) c.self.invariant.reached
    (place_of (state_of (snapshot_of c.self.inside)) c.args.seat) c.args.seat c.args.victim can.signs.owed in
    (did_sign c.args.self.now (snapshot_of c.self.inside) c.self.view_is c.self.invariant c.args.seat c.args.victim c.unwrap_or-stamp.result
    (c.unwrap_or-stamp.ensures ∙ ap (λ o. unwrap_or o 0)
    (c.owed_to.ensures ∙ ap (λ (s : Snapshot). owed_to c.args.victim
    (owes (state_of s) c.args.seat (place_of (state_of s) c.args.seat))) (sym c.self.view_is)))
    (omega (arith, seat, c.self.invariant.sizes.signs)) (c.can_sign.ensures.0 c.if-not-can_sign.false)).core

pub returns : goal.returns
returns c = let can = subst (λ (s : Snapshot). Possible (state_of s) (Sign c.args.seat c.args.victim))
    (sym c.self.view_is) (c.can_sign.ensures.0 c.if-not-can_sign.false) in
    let seat = owed_seat (state_of (snapshot_of c.self.inside)) c.self.invariant.reached
    (place_of (state_of (snapshot_of c.self.inside)) c.args.seat) c.args.seat c.args.victim can.signs.owed in
    (did_sign c.args.self.now (snapshot_of c.self.inside) c.self.view_is c.self.invariant c.args.seat c.args.victim c.unwrap_or-stamp.result
    (c.unwrap_or-stamp.ensures ∙ ap (λ o. unwrap_or o 0)
    (c.owed_to.ensures ∙ ap (λ (s : Snapshot). owed_to c.args.victim
    (owes (state_of s) c.args.seat (place_of (state_of s) c.args.seat))) (sym c.self.view_is)))
    (omega (arith, seat, c.self.invariant.sizes.signs)) (c.can_sign.ensures.0 c.if-not-can_sign.false)).steps
