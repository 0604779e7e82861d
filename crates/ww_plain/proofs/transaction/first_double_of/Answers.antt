use Rattle.std.proofs.Common.{◌∙◌, sym, ap}
use Rattle.std.proofs.lemmas.Bool.{not-true, not-false}
use Rattle.std.proofs.lemmas.List.{map_more}
use Rattle.ww_plain.proofs.Members.{different_none}
use Rattle.ww_plain.proofs.Doubles.{double_found, different_more, different_all}
use Rattle.ww_plain.proofs.transaction.first_double_of.Goals as goal

pub loop-item-init : goal.loop-item-init
loop-item-init g c = (different_none, c.new-seen.ensures)

pub returns-then-not-insert : goal.returns-then-not-insert
returns-then-not-insert g c =
    let (different, marks) = c.loop-item.invariant in
    let came = not-false _ (sym (c.insert.ensures.new _ marks) ∙ c.if-not-insert.true) in
    double_found g.T.Listed.names c.args.items.now c.loop-item.item-index c.item-item.result _ c.loop-item-test.true
    c.item-item.is c.node-node.ensures different came

pub loop-item-preserved : goal.loop-item-preserved
loop-item-preserved g c =
    let (different, marks) = c.loop-item.invariant in
    let new = not-true _ (sym (c.insert.ensures.new _ marks) ∙ c.if-not-insert.false) in
    let more = map_more g.T.Listed.names c.args.items.now c.loop-item.item-index c.item-item.result c.loop-item-test.true in (
      different_more g.T.Listed.names c.args.items.now c.loop-item.item-index c.item-item.result _
          c.loop-item-test.true c.item-item.is c.node-node.ensures different new,
      rw (more, ← c.node-node.ensures ∙ ap g.T.Listed.names c.item-item.is) (c.insert.ensures.more _ marks),
    )

pub returns : goal.returns
returns g c = different_all g.T.Listed.names c.args.items.now c.loop-item.item-index c.loop-item-test.false c.loop-item.invariant.0
