use Rattle.std.proofs.Common.{rules}
use Rattle.std.proofs.lemmas.Result.{err_from_is_err_and}
use Rattle.serde_json.specs.View.{view}
use Rattle.ww_json.specs.Parts.{each}
use Rattle.ww_schedule.specs.Events.{event_in}
use Rattle.ww_json.proofs.Each.{each_more, each_stops}
use Rattle.ww_schedule.proofs.schedules.each_event.Goals as goal

pub loop-item-init : goal.loop-item-init
unfolding each
loop-item-init c = search rules

pub loop-item-preserved : goal.loop-item-preserved
loop-item-preserved c =
    each_more view (event_in c.args.seats c.args.locks) c.args.items.now c.loop-item.item-index c.item-item.result
    c.loop-item.events.items _
    c.in_ok-event.event c.loop-item-test.true c.item-item.is c.loop-item.invariant c.in_ok-event.ensures c.in_ok-push.ensures.items

pub returns-in_err-event : goal.returns-in_err-event
returns-in_err-event c =
    let p = err_from_is_err_and c.from_residual-in_err-event.result c.from_residual-in_err-event.ensures.1 in
    rw (p.1, p.2) (λ _. each_stops view (event_in c.args.seats c.args.locks) c.args.items.now c.loop-item.item-index c.item-item.result _ _
    c.loop-item-test.true c.item-item.is c.loop-item.invariant c.in_err-event.ensures)
