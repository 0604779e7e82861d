use Rattle.std.proofs.Common.{map, rules}
use Rattle.std.proofs.lemmas.Result.{err_from_is_err_and}
use Rattle.serde_json.specs.View.{view}
use Rattle.ww_script_parts.specs.Acts.{deed_of}
use Rattle.ww_json.specs.Parts.{each}
use Rattle.ww_script_parts.specs.Scripts.{script_in}
use Rattle.ww_json.proofs.Each.{each_more_by, each_stops}
use Rattle.ww_script_parts.proofs.scripts.each_script.Goals as goal

pub loop-item-init : goal.loop-item-init
unfolding each
loop-item-init c = search rules

pub loop-item-preserved : goal.loop-item-preserved
loop-item-preserved c =
    each_more_by (λ s. map deed_of s.items) view (script_in c.args.ranges) c.args.items.now c.loop-item.item-index
    c.item-item.result c.loop-item.scripts.items _
    c.in_ok-script.script c.loop-item-test.true c.item-item.is c.loop-item.invariant c.in_ok-script.ensures c.in_ok-push.ensures.items

pub returns-in_err-script : goal.returns-in_err-script
returns-in_err-script c =
    let p = err_from_is_err_and c.from_residual-in_err-script.result c.from_residual-in_err-script.ensures.1 in
    rw (p.1, p.2) (λ ne. each_stops view (script_in c.args.ranges) c.args.items.now c.loop-item.item-index c.item-item.result _ _
    c.loop-item-test.true c.item-item.is c.loop-item.invariant (c.in_err-script.ensures ne))
