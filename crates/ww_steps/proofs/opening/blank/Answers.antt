use Rattle.std.proofs.Common.{[], ◌∷◌, refl, sym, subst, ◌∙◌}
use Rattle.ww_table.specs.declared.board.Board.{Board}
use Rattle.ww_table.specs.Made.{IsTicket}
use Rattle.ww_table.proofs.Making.{next_is}
use Rattle.ww_steps.proofs.opening.blank.Goals as goal

pub first-requires-clause-ticket : goal.first-requires-clause-ticket
first-requires-clause-ticket c =
    subst (λ (x : Board). IsTicket x.table.shared.table_id x.table.shared.key c.in-Some.ticket)
    (sym (c.in_ok-means.ensures ∙ c.in_ok-board-2.ensures.ok))
    (next_is c.pop.new.self.items (c.in-Some.ticket ∷ []) [] c.in-Some.ticket c.in_ok-board.ensures.tickets_are (sym c.in-Some.ensures.items) refl).0
