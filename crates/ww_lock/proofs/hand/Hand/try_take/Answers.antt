use Rattle.std.proofs.Common.{ℕ, true, false, ap, refl, subst, sym, ◌+◌}
use Rattle.ww_seat.specs.Accounts.{Account}
use Rattle.ww_seat.specs.Calls.{HasTakenAtOnce}
use Rattle.ww_lock.specs.Carried.{Carried, MayLock}
use Rattle.ww_lock.specs.Hands.{carried_of}
use Rattle.ww_lock.specs.Moves.{IsTried}
use Rattle.ww_lock.specs.declared.hand.Hand.TheInside.{Inside}
use Rattle.ww_lock.proofs.Carrying.{Takes, at_board, may_try, even_still, takes, missed}
use Rattle.ww_lock.proofs.hand.Hand.try_take.Goals.{After-add}
use Rattle.ww_lock.proofs.hand.Hand.try_take.Goals as goal

pub try_take-requires-clause-may : goal.try_take-requires-clause-may
try_take-requires-clause-may c = let h = c.self.inside in
    let at = at_board h c.args.self.now c.world.inside.board c.world.inside.wires.items c.args.world.now c.self.view_is
    c.world.view_is c.requires.home c.self.invariant in
    may_try h c.args.self.now c.world.inside.board c.args.n c.from.result c.self.view_is
    c.self.invariant at c.requires.may c.from.ensures

abbrev taken : After-add → Inside
taken c = record (c.self.inside) { seat = c.try_take.new.self; marks = c.add.new.marks; seen = c.add.new.seen }

took : (c : After-add) → Takes c.self.inside (taken c) (c.self.inside.seat.me.0.part.core.tries + 1) c.args.n c.in-Some.node
took c =
    let h = c.self.inside in
    let may = subst (MayLock c.args.n) (sym c.self.view_is) c.requires.may in
    let e = subst (λ (n : ℕ). HasTakenAtOnce h.seat.me n c.in-Some.node c.try_take.new.self.me) c.from.ensures c.in-Some.ensures.1 in
    takes h (taken c) (h.seat.me.0.part.core.tries + 1) c.args.n c.in-Some.node c.self.invariant may.fresh may.there may.new
    c.in-Some.ensures.0.back e
    (record {
      bells = refl;
      parker = refl;
      even = even_still h.seat.me c.try_take.new.self.me h.patience h.patience h.bells.items c.in-Some.ensures.0.out
          (ap (λ (a : Account). a.counts.cancelled) e.now) refl c.self.invariant.even;
    })
    refl c.add.ensures.marks c.add.ensures.seen

pub invariant_of-self : goal.invariant_of-self
invariant_of-self c = (took c).carries

pub returns-in-Some : goal.returns-in-Some
returns-in-Some c = let may = subst (MayLock c.args.n) (sym c.self.view_is) c.requires.may in
    subst (λ (v : Carried). IsTried v c.args.n true (carried_of (taken c))) c.self.view_is (
      (took c).fresh,
      record { new = may.new; contents = c.in-Some.node; added = (took c).is },
      c.in-Some.ensures.1.unmet,
      c.in-Some.ensures.0.out.deaf,
    )

pub returns-in-None : goal.returns-in-None
returns-in-None c = let h = c.self.inside in
    subst (λ (v : Carried). IsTried v c.args.n false (carried_of (record h { seat = c.try_take.new.self }))) c.self.view_is
    (missed h c.try_take.new.self c.args.n c.from.result c.self.invariant
    (subst (MayLock c.args.n) (sym c.self.view_is) c.requires.may) c.in-None.ensures.0 c.in-None.ensures.1)
