use Rattle.std.proofs.Common.{◌≡◌, map, take, Ok}
use Rattle.serde_json.specs.View.{view}
use Rattle.ww_json.specs.Parts.{below, each}
use Rattle.ww_script_parts.proofs.transactions.each_below.Given as goal

abbrev pub invariant-loop-item : goal.invariant-loop-item
invariant-loop-item l = each (below l.limit) (map view (take l.item-index l.items)) ≡ Ok (l.numbers.items)
