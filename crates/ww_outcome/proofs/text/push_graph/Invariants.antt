use Rattle.std.proofs.Common.{◌≡◌, ◌++◌, take, string_bytes}
use Rattle.ww_json.specs.Pieces.{numbered}
use Rattle.ww_outcome.specs.Text.{node_line}
use Rattle.ww_outcome.proofs.text.push_graph.Given as goal

abbrev pub invariant-loop-index : goal.invariant-loop-index
invariant-loop-index l = string_bytes l.out ≡ string_bytes l.initial.out ++ numbered (node_line l.ports) 0 (take l.index l.graph)
