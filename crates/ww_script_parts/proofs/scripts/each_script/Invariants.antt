use Rattle.std.proofs.Common.{◌≡◌, map, take, Ok}
use Rattle.serde_json.specs.View.{view}
use Rattle.ww_script_parts.specs.Acts.{deed_of}
use Rattle.ww_json.specs.Parts.{each}
use Rattle.ww_script_parts.specs.Scripts.{script_in}
use Rattle.ww_script_parts.proofs.scripts.each_script.Given as goal

abbrev pub invariant-loop-item : goal.invariant-loop-item
invariant-loop-item l = each (script_in l.ranges) (map view (take l.item-index l.items))
    ≡ Ok (map (λ s. map deed_of s.items) l.scripts.items)
