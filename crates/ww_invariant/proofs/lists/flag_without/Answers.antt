use Rattle.std.proofs.Common.{sym, ◌∙◌}
use Rattle.ww_invariant.proofs.InsideTurning.{none_left, one_left, some_left}
use Rattle.ww_invariant.proofs.lists.flag_without.Goals as goal

pub returns-in-None : goal.returns-in-None
returns-in-None c = sym (none_left c.args.waiters.now c.args.who (sym c.first.ensures ∙ c.in-None.is))

pub returns-in-Some : goal.returns-in-Some
returns-in-Some c = sym (one_left c.args.waiters.now c.args.who c.in-Some.first
    (sym c.first.ensures ∙ c.in-Some.is) (sym c.count.ensures ∙ c.if-count-eq1.true) (sym c.seat.ensures ∙ c.if-seat-who.true))

pub returns-in-Some-2 : goal.returns-in-Some-2
returns-in-Some-2 c = sym (some_left c.args.waiters.now c.args.who c.in-Some.first
    (sym c.first.ensures ∙ c.in-Some.is) (λ _ same. c.if-seat-who.false (c.seat.ensures ∙ same)))

pub returns-in-Some-2-2 : goal.returns-in-Some-2-2
returns-in-Some-2-2 c = sym (some_left c.args.waiters.now c.args.who c.in-Some-2.field-0
    (sym c.first.ensures ∙ c.in-Some-2.is) (λ one. absurd (c.if-count-eq1.false (c.count.ensures ∙ one))))
