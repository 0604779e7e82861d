use Rattle.std.proofs.Common.{rules, ◌≡◌, refl, subst}
use Rattle.ww_seat.specs.Standings.{IsIn}
use Rattle.ww_steps.specs.declared.turn.Turn.TheVariants.{Looks}
use Rattle.ww_steps.specs.Situations.{Situation}
use Rattle.ww_steps.specs.Stations.{situation_of}
use Rattle.ww_steps.specs.Answers.{BooksWakes}
use Rattle.ww_steps.proofs.Account.{entered_balances, step_books, wait_balances}
use Rattle.ww_steps.proofs.Locks.{at_turn}
use Rattle.ww_steps.proofs.desk.Desk.go_on.Goals as goal

pub returns-else-not-enter_wanted-clause-books : goal.returns-else-not-enter_wanted-clause-books
returns-else-not-enter_wanted-clause-books c = let h = c.self.inside.station in let q = c.enter_wanted.new.self in
    let in_guard = c.if-not-enter_wanted.false in
    let e : IsIn h.seat c.in-Wants.lock q = search rules in subst (λ (s : Situation). BooksWakes s (situation_of c.look.new.self)) c.self.view_is
    (step_books (situation_of h) (situation_of c.look.new.self)
    (entered_balances h c.in-Wants.lock q c.in-Wants.waits c.look.result c.look.new.self e
    c.look.ensures.answer c.look.ensures.still))

pub returns-in-Looks-clause-books : goal.returns-in-Looks-clause-books
returns-in-Looks-clause-books c = let h = c.self.inside.station in let s' = situation_of c.look-in-Looks.new.self in
    let turn : h.turn ≡ Looks c.in-Looks.lock c.in-Looks.arrival c.in-Looks.waits = search rules in
    let at = at_turn h (Looks c.in-Looks.lock c.in-Looks.arrival c.in-Looks.waits) c.self.invariant turn in
    subst (λ (s : Situation). BooksWakes s s') c.self.view_is
    (step_books (situation_of h) s' (wait_balances (situation_of h) s' c.in-Looks.lock c.in-Looks.waits c.look-in-Looks.result
    c.look-in-Looks.ensures.answer (record {
      own = refl;
      still_own = refl;
      before = at.3.0;
      booked = at.3.1;
      still = c.look-in-Looks.ensures.still;
      woken = at.2;
    })))
