use Rattle.std.proofs.Common.{◌∙◌, sym}
use Rattle.ww_plain.proofs.Turns.{turned_more, last_more}
use Rattle.ww_plain.proofs.meaning.turn.Goals as goal

pub loop-node-preserved : goal.loop-node-preserved
loop-node-preserved c =
    let more = turned_more c.loop-node.nodes c.args.port c.loop-node.before c.args.walk.now c.loop-node.node-index
    c.loop-node-test.true in (
      rw (c.from.ensures, c.from-in-loop-node.ensures) (sym more ∙ c.loop-node.invariant.0),
      sym (last_more c.args.walk.now c.loop-node.node-index c.loop-node-test.true),
    )
