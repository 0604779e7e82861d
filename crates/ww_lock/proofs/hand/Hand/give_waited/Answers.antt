use Rattle.std.proofs.Common.{ap, arith, ◌∙◌}
use Rattle.ww_plain.specs.Numbers.{is_among}
use Rattle.ww_lock.specs.Carried.{Carried, held_of}
use Rattle.ww_lock.proofs.Carrying.{at_board, may_give, gives_late}
use Rattle.ww_lock.proofs.hand.Hand.give_waited.Goals as goal

pub give_waited-requires-clause-may : goal.give_waited-requires-clause-may
give_waited-requires-clause-may g c =
    let may = may_give c.self.inside c.world.inside.board c.args.n c.self.invariant (ap (λ (v : Carried). is_among c.args.n (held_of v)) c.self.view_is ∙ c.requires.held)
    (at_board c.self.inside c.args.self.now c.world.inside.board c.world.inside.wires.items c.args.world.now c.self.view_is
    c.world.view_is c.requires.home c.self.invariant) in
    record { there = omega (arith, may.there, c.world.inside.board.fits); away = may.away; owner = may.owner }

pub invariant_of-self : goal.invariant_of-self
invariant_of-self g c = (gives_late c.self.inside c.give_waited.new.self c.args.n c.deref_mut.result.now c.give_waited.new.bells
    c.self.invariant (ap (λ (v : Carried). is_among c.args.n (held_of v)) c.self.view_is ∙ c.requires.held) c.deref_mut.ensures.value c.give_waited.ensures).carries

pub returns : goal.returns
returns g c = rw (← c.self.view_is) (
    let v = gives_late c.self.inside c.give_waited.new.self c.args.n c.deref_mut.result.now c.give_waited.new.bells
    c.self.invariant (ap (λ (v : Carried). is_among c.args.n (held_of v)) c.self.view_is ∙ c.requires.held) c.deref_mut.ensures.value c.give_waited.ensures in
    record { rest = v.is; fewer = v.fewer }
    )
