use Rattle.std.proofs.Common.{ap, refl, sym, ◌∙◌, true≢false}
use Rattle.ww_invariant.specs.Guards.{exiting}
use Rattle.ww_seat.proofs.Working.{touched_lost_on_top, none_condemned, none_touched}
use Rattle.ww_seat.proofs.Stood.{dying_orderly, died_goes, look_died}
use Rattle.ww_seat.proofs.standing.back_off.Goals as goal

pub returns-then-not-die-clause-backed_off : goal.returns-then-not-die-clause-backed_off
returns-then-not-die-clause-backed_off c = let at = c.requires.at.1 in
    let t = touched_lost_on_top at.orderly at.working.inside (c.die.ensures.gone.lost c.if-not-die.true) in
    record { met = λ on. absurd (true≢false (sym on)); lost = λ _. t; idle = none_touched t }

pub leave-requires-clause-at : goal.leave-requires-clause-at
leave-requires-clause-at c = let at = c.requires.at.1 in record {
  seat = c.die.ensures.gone.seat;
  lock = at.lock;
  orderly = (dying_orderly c.args.seen at.orderly at.working.inside (c.die.ensures.gone.gone c.if-not-die.false)).0;
}

pub leave-requires-clause-may : goal.leave-requires-clause-may
leave-requires-clause-may c = let at = c.requires.at.1 in
    died_goes c.args.seat.now.seat.me c.die.new.self.seat.me c.args.seen at.working
    (dying_orderly c.args.seen at.orderly at.working.inside (c.die.ensures.gone.gone c.if-not-die.false)).1

pub returns-clause-backed_off : goal.returns-clause-backed_off
returns-clause-backed_off c = let m = c.args.seat.now.seat.me in let at = c.requires.at.1 in let out = c.leave.ensures.out in
    let is = (dying_orderly c.args.seen at.orderly at.working.inside (c.die.ensures.gone.gone c.if-not-die.false)).1 in record {
      met = λ _ k may. look_died m at.working may (c.die.ensures.older k may) is out;
      lost = λ off. absurd (true≢false off);
      idle = none_condemned (out.view ∙ ap exiting is) refl refl refl;
    }
