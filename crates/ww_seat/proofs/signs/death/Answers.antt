use Rattle.std.proofs.Common.{rules, sym, ◌∙◌}
use Rattle.ww_seat.proofs.Signing.{told_read, dies_waiting, stays_waiting, dying_holds, stays_unsigned, death_told, told_none, stays_none, told_signed, dies_signed, owns_one, if_some, if_none, still_loud}
use Rattle.ww_seat.proofs.signs.death.Goals as goal

pub returns-in_err-must_die-in-WoundWait-clause-looked : goal.returns-in_err-must_die-in-WoundWait-clause-looked
returns-in_err-must_die-in-WoundWait-clause-looked c = let at = c.requires.at.1 in let read = c.must_die-in-WoundWait.ensures in record {
  told = told_read at.orderly read.read;
  death = search rules;
  life = if_none c.from_residual.result _ (λ _. stays_unsigned at.working read.read (sym at.seat.kind ∙ sym c.kind.ensures ∙ c.in-WoundWait.is)
      (death_told at.seat read c.in_err-must_die-in-WoundWait.was));
}

pub returns-then-sign-eq0-clause-looked : goal.returns-then-sign-eq0-clause-looked
returns-then-sign-eq0-clause-looked c = let at = c.requires.at.1 in let v = c.args.seat.now.seat.me.0.part.core in
    let read = c.must_die-in-WoundWait.ensures in let kind = sym at.seat.kind ∙ sym c.kind.ensures ∙ c.in-WoundWait.is in
    let holder = dying_holds v c.args.seen 1 at.working.place.1 (death_told at.seat read c.in_ok-must_die-in-WoundWait.was) in
    let unsigned = c.own_sign-sign.ensures.unsigned c.if-sign-eq0.true (still_loud read.read kind (owns_one v holder)) in
    record { told = told_none at.orderly read.read holder unsigned; death = tt; life = stays_none read.read kind unsigned }

pub returns-in-WaitDie-clause-looked : goal.returns-in-WaitDie-clause-looked
returns-in-WaitDie-clause-looked c = let at = c.requires.at.1 in let read = c.must_die.ensures in
    let kind = sym at.seat.kind ∙ sym c.kind.ensures ∙ c.in-WaitDie.is in record {
      told = told_read at.orderly read.read;
      death = if_some c.must_die.result _
          (λ k is. dies_waiting at.working c.requires.seen read.read kind (death_told at.seat read is) at.orderly.unheeded);
      life = if_none c.must_die.result _ (λ is. stays_waiting read.read kind (death_told at.seat read is));
    }

pub returns-else-sign-eq0-clause-looked : goal.returns-else-sign-eq0-clause-looked
returns-else-sign-eq0-clause-looked c = let at = c.requires.at.1 in let read = c.must_die-in-WoundWait.ensures in
    let kind = sym at.seat.kind ∙ sym c.kind.ensures ∙ c.in-WoundWait.is in
    let holder = dying_holds c.args.seat.now.seat.me.0.part.core c.args.seen 1 at.working.place.1
    (death_told at.seat read c.in_ok-must_die-in-WoundWait.was) in
    let signed = c.own_sign-sign.ensures.signed c.if-sign-eq0.false in record {
      told = told_signed c.own_sign-sign.result at.orderly read.read holder signed;
      death = dies_signed at.working c.requires.seen read.read kind holder c.if-sign-eq0.false signed at.orderly.unheeded;
      life = tt;
    }
