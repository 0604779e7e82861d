use Rattle.std.proofs.Common.{rules, sym, subst, ◌∙◌}
use Rattle.ww_word.specs.declared.owner.Owner.{Owner}
use Rattle.ww_seat.specs.Work.{looks_again, HasAsked}
use Rattle.ww_seat.proofs.Working.{touched_same, touched_read, touched_lost, touched_then, touched_asking}
use Rattle.ww_seat.proofs.Stood.{later_work, nothing_by_other, sees_read, may_ask, has_asked}
use Rattle.ww_seat.proofs.standing.ask_if_first.Goals as goal

pub returns-then-not-looks_again-clause-asked : goal.returns-then-not-looks_again-clause-asked
returns-then-not-looks_again-clause-asked c = record {
  touched = touched_same c.requires.at.orderly;
  asked = search rules;
}

pub returns-then-flags-ne-WAITERS-clause-asked : goal.returns-then-flags-ne-WAITERS-clause-asked
returns-then-flags-ne-WAITERS-clause-asked c = record {
  touched = touched_same c.requires.at.orderly;
  asked = search rules;
}

pub returns-in_err-first-clause-asked : goal.returns-in_err-first-clause-asked
returns-in_err-first-clause-asked c = record {
  touched = touched_read c.requires.at.orderly c.first.ensures.read;
  asked = search rules;
}

pub returns-then-seat-who-clause-asked : goal.returns-then-seat-who-clause-asked
returns-then-seat-who-clause-asked c = let sees = c.requires.seen.sees in record {
  touched = touched_read c.requires.at.orderly c.first.ensures.read;
  asked = record {
    sees = sees_read sees c.first.ensures.read;
    asked = λ _. nothing_by_other sees c.first.ensures c.in_ok-first.was (λ same. c.if-seat-who.true (c.seat.ensures ∙ same ∙ sym c.who.ensures));
  };
}

pub ask-requires-clause-may : goal.ask-requires-clause-may
ask-requires-clause-may c = record {
  lock = c.requires.at.lock;
  may = may_ask (later_work (sym c.looks_again.ensures ∙ c.if-not-looks_again.false) c.requires.at.working) c.requires.seen.sees
      c.first.ensures c.in_ok-first.was (sym c.seat.ensures ∙ c.if-seat-who.false ∙ c.who.ensures)
      (sym c.flags.ensures ∙ c.if-flags-ne-WAITERS.false);
  valid = search rules;
}

pub returns-then-not-ask-clause-asked : goal.returns-then-not-ask-clause-asked
returns-then-not-ask-clause-asked c = let t = touched_read c.requires.at.orderly c.first.ensures.read in record {
  touched = touched_then t (touched_lost t.orderly (c.ask.ensures.lost c.if-not-ask.true));
  asked = tt;
}

pub returns-clause-asked : goal.returns-clause-asked
returns-clause-asked c = let m2 = c.ask.new.self.seat.me in let asked = c.ask.ensures.asked c.if-not-ask.false in
    let t = touched_read c.requires.at.orderly c.first.ensures.read in record {
      touched = touched_then t (touched_asking c.args.seen t.orderly asked);
      asked = subst (λ (o : Owner). HasAsked o (looks_again c.args.arrival) m2.0.part.core) (sym c.with_flags.ensures)
          (has_asked c.requires.seen.sees c.first.ensures.read asked);
    }
