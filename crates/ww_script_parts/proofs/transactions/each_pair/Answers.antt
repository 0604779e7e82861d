use Rattle.std.proofs.Common.{rules}
use Rattle.std.proofs.lemmas.Result.{err_from_is_err_and}
use Rattle.serde_json.specs.View.{view}
use Rattle.ww_json.specs.Parts.{each}
use Rattle.ww_script_parts.specs.Transactions.{pair_in}
use Rattle.ww_json.proofs.Each.{each_more, each_stops}
use Rattle.ww_script_parts.proofs.transactions.each_pair.Goals as goal

pub loop-item-init : goal.loop-item-init
unfolding each
loop-item-init c = search rules

pub loop-item-preserved : goal.loop-item-preserved
loop-item-preserved c =
    each_more view (pair_in c.args.size) c.args.items.now c.loop-item.item-index c.item-item.result c.loop-item.pairs.items _
    c.in_ok-pair.pair c.loop-item-test.true c.item-item.is c.loop-item.invariant c.in_ok-pair.ensures c.in_ok-push.ensures.items

pub returns-in_err-pair : goal.returns-in_err-pair
returns-in_err-pair c =
    let p = err_from_is_err_and c.from_residual-in_err-pair.result c.from_residual-in_err-pair.ensures.1 in
    rw (p.1, p.2) (λ _. each_stops view (pair_in c.args.size) c.args.items.now c.loop-item.item-index c.item-item.result _ _
    c.loop-item-test.true c.item-item.is c.loop-item.invariant c.in_err-pair.ensures)
