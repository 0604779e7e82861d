use Rattle.std.proofs.Common.{◌<◌, ◌≤◌, List, map, Option, refl, sym, ap, subst, ◌∙◌, arith, rules, is_none}
use Rattle.ww_table.specs.declared.board.Board.{Board}
use Rattle.ww_table.specs.declared.make.Ticket.{Ticket}
use Rattle.ww_steps.specs.Opened.{IsOffice}
use Rattle.ww_steps.proofs.Fresh.{none_used, office_laid}
use Rattle.ww_steps.proofs.opening.lay.Goals as goal

pub invariant_of-result : goal.invariant_of-result
invariant_of-result c =
    let packed : 64 < c.packed_locks-locks.result = search rules in
    let few_locks : c.packed_locks-locks.result ≤ 16777216 = search rules in (
      subst (λ (x : Board × List (Option Ticket)). IsOffice x.0 c.args.kind c.packed_locks-locks.result c.args.left x.1)
          (λ i. (sym c.in_ok-board-2.ensures.ok i, sym c.in_ok-tickets.ensures i))
          (office_laid c.args.left c.in_ok-board.ensures packed few_locks (omega (arith, c.requires.seats_are.few)) c.requires.few_contexts),
      refl,
    )

pub returns : goal.returns
returns c = let laid = c.in_ok-board.ensures in record {
  sizes = c.requires;
  size_is = c.packed_locks-locks.ensures;
  kind_is = ap (λ (b : Board). b.table.shared.key.kind) c.in_ok-board-2.ensures.ok ∙ laid.kind_is;
  left_is = refl;
  none_made = ap (map is_none) c.in_ok-tickets.ensures ∙ none_used c.in_ok-board.tickets.items c.args.seats laid.tickets_are.many;
}
