use Rattle.std.proofs.Common.{◌∙◌, sym, ap, map, arith}
use Rattle.std.proofs.lemmas.List.{take_all}
use Rattle.ww_plain.specs.Numbers.{distinct_of}
use Rattle.ww_plain.proofs.FootprintFacts.{few_more, distinct_more}
use Rattle.ww_plain.proofs.footprints.distinct_nodes.Goals as goal

pub join-requires : goal.join-requires
join-requires g c =
    omega (
      arith,
      c.requires,
      few_more g.T.Listed.names c.args.items.now c.loop-item.item-index c.item-item.result
          c.node.result c.loop-item.nodes.items c.loop-item-test.true c.item-item.is c.node.ensures
          c.loop-item.invariant,
    )

pub loop-item-preserved : goal.loop-item-preserved
loop-item-preserved g c =
    let more = distinct_more g.T.Listed.names c.args.items.now c.loop-item.item-index c.item-item.result
    c.node.result c.loop-item-test.true c.item-item.is c.node.ensures in
    rw (c.join.ensures, c.loop-item.invariant) (sym more)

pub returns : goal.returns
returns g c =
    c.loop-item.invariant ∙ ap (λ items. distinct_of (map g.T.Listed.names items))
    (take_all c.loop-item.item-index c.args.items.now c.loop-item-test.false)
