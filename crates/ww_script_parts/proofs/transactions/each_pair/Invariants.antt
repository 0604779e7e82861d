use Rattle.std.proofs.Common.{◌≡◌, map, take, Ok}
use Rattle.serde_json.specs.View.{view}
use Rattle.ww_json.specs.Parts.{each}
use Rattle.ww_script_parts.specs.Transactions.{pair_in}
use Rattle.ww_script_parts.proofs.transactions.each_pair.Given as goal

abbrev pub invariant-loop-item : goal.invariant-loop-item
invariant-loop-item l = each (pair_in l.size) (map view (take l.item-index l.items)) ≡ Ok (l.pairs.items)
