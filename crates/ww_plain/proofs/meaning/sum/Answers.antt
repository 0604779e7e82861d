use Rattle.std.proofs.Common.{arith}
use Rattle.std.proofs.lemmas.List.Sums.{sum_by_more}
use Rattle.ww_plain.specs.Graph.{value_of}
use Rattle.ww_plain.proofs.meaning.sum.Goals as goal

pub overflow_add-total : goal.overflow_add-total
overflow_add-total c = omega (
  arith,
  c.requires.few,
  c.loop-node.invariant.1,
  c.loop-node-test.true,
  c.from-total.ensures,
  c.value_at.type_inv,
)

pub loop-node-preserved : goal.loop-node-preserved
loop-node-preserved c =
    let more = sum_by_more (value_of c.args.graph.now) c.args.walk.now c.loop-node.node-index 0 c.loop-node-test.true in (
      omega (arith, more, c.loop-node.invariant.0, c.from-total.ensures, c.value_at.ensures),
      omega (arith, c.loop-node.invariant.1, c.from-total.ensures, c.value_at.type_inv),
    )
