use Rattle.std.proofs.Common.{ap, refl, sym, ◌∙◌, arith}
use Rattle.ww_invariant.specs.declared.cells.Sight.{Sight}
use Rattle.ww_seat.proofs.Working.{marked_none, still_noted}
use Rattle.ww_seat.proofs.Signing.{noted_none, marked_noted, noted_step, noted_is, noted_all, owed_at, victim_low, may_sign}
use Rattle.ww_seat.proofs.signs.sign_some.Goals as goal

pub loop-pair-init : goal.loop-pair-init
loop-pair-init c = (
  c.requires.at.seat,
  noted_none c.args.seat.now.seat.me c.requires.at.orderly refl,
  refl,
  marked_none c.args.seat.now.seat.me.0.part.core _ c.requires.marks.woken,
  refl,
)

pub sign-is_condemned-requires-clause-may : goal.sign-is_condemned-requires-clause-may
sign-is_condemned-requires-clause-may c = let owed = owed_at c.args.owed.now c.loop-pair.pair-index c.loop-pair-test.true in (
  victim_low c.args.owed.now _ _ c.loop-pair.invariant.1 c.requires.owed owed,
  may_sign c.args.owed.now c.requires.at.inside c.loop-pair.invariant.1 c.requires.owed owed,
)

pub mark-requires : goal.mark-requires
mark-requires c = let low = (c.requires.owed _ _ (owed_at c.args.owed.now c.loop-pair.pair-index c.loop-pair-test.true)).0 in
    let room = c.requires.marks.room in let long = c.loop-pair.invariant.4 in omega arith

pub loop-pair-preserved : goal.loop-pair-preserved
loop-pair-preserved c = (
  c.sign-is_condemned.ensures.seat,
  noted_step c.loop-pair.pair-index c.args.owed.now c.sign-is_condemned.result c.loop-pair-test.true c.loop-pair.invariant.1
      (noted_is c.sign-is_condemned.result c.loop-pair.seat.seat.me c.sign-is_condemned.new.self.seat.me _
      c.sign-is_condemned.ensures.hit c.sign-is_condemned.ensures.miss),
  c.sign-is_condemned.ensures.records ∙ c.loop-pair.invariant.2,
  marked_noted c.loop-pair.seat.seat.me c.args.wake.now c.loop-pair.wake c.mark.new.marks c.sign-is_condemned.result _
      (c.who-who.ensures ∙ sym c.requires.at.seat.who ∙ sym (ap (λ (z : Sight). z.part.core.who) c.loop-pair.invariant.1.view))
      (noted_is c.sign-is_condemned.result c.loop-pair.seat.seat.me c.sign-is_condemned.new.self.seat.me _
      c.sign-is_condemned.ensures.hit c.sign-is_condemned.ensures.miss) c.loop-pair.invariant.3
      c.mark.ensures.marked,
  c.mark.ensures.long ∙ c.loop-pair.invariant.4,
)

pub returns-clause-signed : goal.returns-clause-signed
returns-clause-signed c = let i = c.loop-pair.invariant in
    let h = noted_all c.loop-pair.pair-index c.args.owed.now c.loop-pair-test.false i.1 in
    (h, record { marked = i.3; long = i.4; still = still_noted h })
