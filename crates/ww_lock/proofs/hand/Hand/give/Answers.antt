use Rattle.std.proofs.Common.{Bool, ap, subst, ◌∙◌}
use Rattle.ww_plain.specs.Numbers.{is_among}
use Rattle.ww_seat.specs.Standings.{IsGive}
use Rattle.ww_lock.specs.Carried.{Carried, held_of}
use Rattle.ww_lock.proofs.Carrying.{at_board, may_give, gives_at_once}
use Rattle.ww_lock.proofs.hand.Hand.give.Goals as goal

pub give-gave-requires-clause-may : goal.give-gave-requires-clause-may
give-gave-requires-clause-may c =
    may_give c.self.inside c.world.inside.board c.args.n c.self.invariant (ap (λ (v : Carried). is_among c.args.n (held_of v)) c.self.view_is ∙ c.requires.held)
    (at_board c.self.inside c.args.self.now c.world.inside.board c.world.inside.wires.items c.args.world.now c.self.view_is
    c.world.view_is c.requires.home c.self.invariant)

pub invariant_of-self : goal.invariant_of-self
invariant_of-self c = (gives_at_once c.self.inside c.give-gave.new.self c.args.n c.self.invariant (ap (λ (v : Carried). is_among c.args.n (held_of v)) c.self.view_is ∙ c.requires.held)
    (subst (λ (r : Bool). IsGive c.self.inside.seat c.args.n r c.give-gave.new.self) c.if-gave.true c.give-gave.ensures)).carries

pub returns-then-gave : goal.returns-then-gave
returns-then-gave c = rw (← c.self.view_is, c.if-gave.true) (
    let v = gives_at_once c.self.inside c.give-gave.new.self c.args.n c.self.invariant (ap (λ (v : Carried). is_among c.args.n (held_of v)) c.self.view_is ∙ c.requires.held)
    (subst (λ (r : Bool). IsGive c.self.inside.seat c.args.n r c.give-gave.new.self) c.if-gave.true c.give-gave.ensures) in
    record { rest = v.is; fewer = v.fewer }
    )
