use Rattle.ww_script_parts.proofs.Kept.{are_ports, graph_kept, scripts_kept}
use Rattle.ww_script_parts.proofs.scripts.scripts_of.Goals as goal

pub invariant_of-result : goal.invariant_of-result
invariant_of-result c =
    let read = rw c.ports-ports.ensures at c.in_ok-scripts-2.ensures in
    let all = rw c.size.ensures.size at (scripts_kept _ c.args.version _ _ read) in
    let unused = (graph_kept c.args.version _ _ c.in_ok-graph.ensures).1 in
    rw c.ports-ports.ensures (record {
      version = are_ports c.args.version;
      graph = c.size.ensures.graph;
      unused = unused;
      some = all.some;
      few = all.few;
      each = all.each;
    })
