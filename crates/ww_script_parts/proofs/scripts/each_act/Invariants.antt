use Rattle.std.proofs.Common.{◌≡◌, map, take, Ok}
use Rattle.serde_json.specs.View.{view}
use Rattle.ww_json.specs.Parts.{each}
use Rattle.ww_script_parts.specs.Acts.{deed_of, act_in}
use Rattle.ww_script_parts.proofs.scripts.each_act.Given as goal

abbrev pub invariant-loop-item : goal.invariant-loop-item
invariant-loop-item l = each (act_in l.ranges) (map view (take l.item-index l.items)) ≡ Ok (map deed_of l.acts.items)
