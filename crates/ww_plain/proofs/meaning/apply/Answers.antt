use Rattle.std.proofs.Common.{List, ap, arith}
use Rattle.ww_plain.specs.declared.node.Node.{Node}
use Rattle.ww_plain.specs.Meaning.{Answer}
use Rattle.ww_plain.specs.Transaction.{add, reverse}
use Rattle.ww_plain.proofs.Doubles.{apart_from_different}
use Rattle.ww_plain.proofs.GraphFacts.{written_back}
use Rattle.ww_plain.proofs.Kept.{keeps_graph}
use Rattle.ww_plain.proofs.meaning.apply.Goals as goal

pub invariant_of-graph : goal.invariant_of-graph
invariant_of-graph c =
    let vector = c.graph.inside.nodes in
    let same = written_back vector.len c.add.new.nodes vector.items (omega (arith, vector.ok.0))
    (omega (arith, vector.ok.0, c.add.auto.nodes, c.deref_mut.ensures.len)) in
    let fits = rw (c.in-Add.is, ← c.graph.view_is) at c.requires.fits in
    rw (same, c.add.ensures, c.deref_mut.ensures.value, c.deref-in-Add.ensures.value)
    (keeps_graph vector.items (add c.in-Add.field-0 c.in-Add.amounts.items) c.graph.invariant fits)

pub move_amount-requires-clause-apart : goal.move_amount-requires-clause-apart
move_amount-requires-clause-apart c = apart_from_different c.in-Move.from c.in-Move.to (rw c.in-Move.is at c.requires.no_double)

pub invariant_of-graph-in-Reverse : goal.invariant_of-graph-in-Reverse
invariant_of-graph-in-Reverse c =
    let vector = c.graph.inside.nodes in
    let same = written_back vector.len c.turn.new.nodes vector.items (omega (arith, vector.ok.0))
    (omega (arith, vector.ok.0, c.turn.auto.nodes, c.deref_mut-in-Reverse.ensures.len)) in
    let fits = rw (c.in-Reverse.is, ← c.graph.view_is) at c.requires.fits in
    let after = keeps_graph vector.items (reverse c.in-Reverse.start c.in-Reverse.port c.in-Reverse.most) c.graph.invariant fits in
    let turned = rw (
      c.deref_mut-in-Reverse.ensures.value,
      c.deref-in-Reverse-2.ensures.0,
      c.walk_from-walk-in-Reverse.ensures.nodes,
      c.deref-in-Reverse.ensures.value,
    ) at c.turn.ensures in
    rw (same, ← ap (λ (m : Answer × List Node). m.1) turned) after
