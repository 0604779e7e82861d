use Rattle.std.proofs.Common.{ap, arith}
use Rattle.std.proofs.lemmas.List.Sums.{sum_by_more}
use Rattle.std.proofs.lemmas.Option.{get_or_from_slice_get}
use Rattle.ww_plain.specs.declared.node.Node.{Node}
use Rattle.ww_bank.proofs.bank.total.Goals as goal

pub loop-n-preserved : goal.loop-n-preserved
loop-n-preserved c =
    let graph = c.args.graph.now in
    let node = c.node.result in
    let more = sum_by_more (λ (x : Node). x.value) graph c.loop-n.n node (omega arith) in
    let here = ap (λ (x : Node). x.value) (get_or_from_slice_get graph c.loop-n.n node node c.node.ensures) in
    (omega (arith, more, here), omega arith)
