use Rattle.std.proofs.Common.{◌≡◌, [], ◌∷◌, ◌++◌, ℕ, ◌+◌, length, length-append, append_assoc, sym, subst, ◌∙◌, rules, arith}
use Rattle.ww_table.specs.Seat.{IsNew}
use Rattle.ww_table.specs.Made.{AreNew}
use Rattle.ww_table.proofs.Making.{news_more, next_is}
use Rattle.ww_table.proofs.make.seated_all.Goals as goal

pub into_stepper-requires-clause-ticket : goal.into_stepper-requires-clause-ticket
into_stepper-requires-clause-ticket c =
    (next_is c.loop-ticket.yielded c.loop-ticket.ticket-iterator.rest.items c.next.new.self.rest.items c.in-Some.ticket c.requires.tickets c.loop-ticket.invariant.2
    (search rules)).0

pub loop-ticket-preserved : goal.loop-ticket-preserved
loop-ticket-preserved c = let b = c.args.board.now in let i = c.loop-ticket.invariant in
    let next = next_is c.loop-ticket.yielded c.loop-ticket.ticket-iterator.rest.items c.next.new.self.rest.items c.in-Some.ticket c.requires.tickets i.2
    (search rules) in
    let more : length (c.loop-ticket.yielded ++ c.in-Some.ticket ∷ []) ≡ length c.loop-ticket.yielded + 1 =
    length-append c.loop-ticket.yielded (c.in-Some.ticket ∷ []) in
    let p = c.push_reserved.ensures in (
      tt,
      tt,
      append_assoc c.loop-ticket.yielded (c.in-Some.ticket ∷ []) c.next.new.self.rest.items ∙ next.2,
      subst (λ (k : ℕ). AreNew b.table.shared.table_id b.table.shared.key k c.push_reserved.new.self.items) (sym more)
          (subst (AreNew b.table.shared.table_id b.table.shared.key _) (sym p.items)
          (news_more b.table.shared.table_id b.table.shared.key (length c.loop-ticket.yielded) c.loop-ticket.made.items c.into_stepper.result
          i.3 (subst (λ (k : ℕ). IsNew b.table.shared.table_id b.table.shared.key k c.into_stepper.result) next.1 c.into_stepper.ensures))),
      omega (arith, more, i.4, p.len),
      omega (arith, i.5, p.capacity),
    )
