use Rattle.std.proofs.Common.{◌≡◌, map, take, Ok}
use Rattle.serde_json.specs.View.{view}
use Rattle.ww_json.specs.Parts.{each}
use Rattle.ww_script_parts.specs.Scripts.{node_in}
use Rattle.ww_script_parts.proofs.scripts.each_node.Given as goal

abbrev pub invariant-loop-item : goal.invariant-loop-item
invariant-loop-item l = each (node_in l.version l.size) (map view (take l.item-index l.items)) ≡ Ok (l.nodes.items)
