use Rattle.std.proofs.Common.{◌≡◌, ◌<◌, ℕ, List, length, Option, None, refl, sym, ap, subst, ◌∙◌, rules, length-set}
use Rattle.std.specs.Arc.{arc_value}
use Rattle.ww_table.specs.declared.board.Board.{Board}
use Rattle.ww_table.specs.declared.make.Ticket.{Ticket}
use Rattle.ww_table.specs.Made.{IsTicket}
use Rattle.ww_steps.specs.Opened.{fresh, premises_of, HasMadeDesk, IsOffice, Premises}
use Rattle.ww_steps.proofs.Fresh.{desk_made, office_taken}
use Rattle.ww_steps.proofs.opening.Office.desk.Goals as goal

pub first-made-requires-clause-ticket : goal.first-made-requires-clause-ticket
first-made-requires-clause-ticket c =
    subst (λ (b : Board). IsTicket b.table.shared.table_id b.table.shared.key c.in-Some.ticket) (sym c.in-Ok.ensures)
    (c.self.invariant.0.tickets_are c.from-at.result c.in-Some.ticket (sym c.in-Some.ensures.taken)).0

pub invariant_of-self-2 : goal.invariant_of-self-2
invariant_of-self-2 c = let q = c.self.inside in let b = arc_value q.board in (
  subst (IsOffice b q.kind q.locks q.left) (sym c.in-Some.ensures.rest)
      (office_taken b q.kind q.locks q.left q.tickets.items c.from-at.result c.self.invariant.0),
  refl,
)

pub returns-clause-ok : goal.returns-clause-ok
returns-clause-ok c = let q = c.self.inside in let b = arc_value q.board in
    let at : c.from-at.result ≡ c.args.number = search rules in
    let low : c.from-at.result < length q.tickets.items = search rules in
    let many : c.len-seats.result ≡ length c.taken.new.tickets.items = search rules in
    let seats : c.len-seats.result ≡ length q.tickets.items = many ∙ ap length c.in-Some.ensures.rest
    ∙ length-set q.tickets.items c.from-at.result None in
    let made : c.replace.new.b.value ≡ fresh b.table.shared.table_id q.locks (length q.tickets.items) q.kind q.left c.in-Some.ticket.who =
    c.replace.ensures.after ∙ c.first-made.ensures
    ∙ (λ i. fresh (c.in-Ok.ensures i).table.shared.table_id q.locks (seats i) q.kind q.left c.in-Some.ticket.who) in
    subst (λ (x : Premises × ℕ × List (Option Ticket)). HasMadeDesk x.0 x.1 c.replace.new.b.value (premises_of b q.locks q.left x.2))
    (λ i. (c.self.view_is i, at i, sym c.in-Some.ensures.rest i))
    (desk_made c.from-at.result c.self.invariant.0 low (sym c.in-Some.ensures.taken) made)
