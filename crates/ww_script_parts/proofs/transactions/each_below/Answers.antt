use Rattle.std.proofs.Common.{rules}
use Rattle.std.proofs.lemmas.Result.{err_from_is_err_and}
use Rattle.serde_json.specs.View.{view}
use Rattle.ww_json.specs.Parts.{below, each}
use Rattle.ww_json.proofs.Each.{each_more, each_stops}
use Rattle.ww_script_parts.proofs.transactions.each_below.Goals as goal

pub loop-item-init : goal.loop-item-init
unfolding each
loop-item-init c = search rules

pub loop-item-preserved : goal.loop-item-preserved
loop-item-preserved c =
    each_more view (below c.args.limit) c.args.items.now c.loop-item.item-index c.item-item.result c.loop-item.numbers.items _
    c.in_ok-number.number c.loop-item-test.true c.item-item.is c.loop-item.invariant c.in_ok-number.ensures c.in_ok-push.ensures.items

pub returns-in_err-number : goal.returns-in_err-number
returns-in_err-number c =
    let p = err_from_is_err_and c.from_residual-in_err-number.result c.from_residual-in_err-number.ensures.1 in
    rw (p.1, p.2) (λ _. each_stops view (below c.args.limit) c.args.items.now c.loop-item.item-index c.item-item.result _ _
    c.loop-item-test.true c.item-item.is c.loop-item.invariant c.in_err-number.ensures)
