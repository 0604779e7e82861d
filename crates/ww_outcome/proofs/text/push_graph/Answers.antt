use Rattle.std.proofs.Common.{◌<◌, ◌++◌, length, sym, ap, ◌∙◌, string_bytes, arith}
use Rattle.std.proofs.lemmas.Option.{get_or_from_slice_get}
use Rattle.ww_outcome.specs.Text.{node_line}
use Rattle.ww_json.proofs.Numbered.{numbered_at}
use Rattle.ww_outcome.proofs.text.push_graph.Goals as goal

pub loop-index-preserved : goal.loop-index-preserved
loop-index-preserved c =
    let i = c.loop-index.index in
    let graph = c.args.graph.now in
    let node = c.node-node.result in
    let in_range : i < length graph = omega arith in
    let at = get_or_from_slice_get graph i node node c.node-node.ensures in
    numbered_at (node_line c.args.ports) graph i node _ _ _ in_range c.loop-index.invariant
    (c.in_ok-push_node_line.ensures ∙ ap (λ n. string_bytes c.loop-index.out ++ node_line c.args.ports i n) (sym at))
