use Rattle.std.proofs.Common.{◌≡◌, map, take, Ok}
use Rattle.serde_json.specs.View.{view}
use Rattle.ww_json.specs.Parts.{each}
use Rattle.ww_schedule.specs.Events.{event_in}
use Rattle.ww_schedule.proofs.schedules.each_event.Given as goal

abbrev pub invariant-loop-item : goal.invariant-loop-item
invariant-loop-item l = each (event_in l.seats l.locks) (map view (take l.item-index l.items)) ≡ Ok (l.events.items)
