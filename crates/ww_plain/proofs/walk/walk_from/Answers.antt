use Rattle.std.proofs.Common.{◌∙◌, [], sym, ap, arith}
use Rattle.ww_plain.specs.Walk.{IsWalk, stop_of}
use Rattle.ww_plain.proofs.Fronts.{front_of_one, front_more, front_ends}
use Rattle.ww_plain.proofs.Walks.{only_walk}
use Rattle.ww_plain.proofs.GraphFacts.{target_is_there}
use Rattle.ww_plain.proofs.FootprintFacts.{begun_below}
use Rattle.ww_plain.proofs.walk.walk_from.Goals as goal

pub loop-next-init : goal.loop-next-init
loop-next-init c =
    let pushed = rw c.new-nodes.ensures at c.push.ensures.items in
    rw pushed (front_of_one _ _ _ _ _ c.requires.course.some c.target_of-stop.ensures, c.insert.ensures.more [] c.new-seen.ensures)

pub new_node-requires : goal.new_node-requires
new_node-requires c = rw c.deref.ensures.0 c.loop-next.invariant.1

pub target_of-stop-requires-in-Some-clause-node : goal.target_of-stop-requires-in-Some-clause-node
target_of-stop-requires-in-Some-clause-node c =
    target_is_there c.args.graph.now _ c.args.port _ c.requires.graph (sym c.loop-next.invariant.0.leads ∙ c.in-Some.ensures.leads)

pub loop-next-smaller : goal.loop-next-smaller
loop-next-smaller c =
    let room = rw c.deref.ensures.0 at c.in-Some.ensures.room in omega (arith, room, c.push-in-Some.ensures.len)

pub loop-next-preserved : goal.loop-next-preserved
loop-next-preserved c =
    let goes = rw c.deref.ensures.0 at c.in-Some.ensures in (
      rw c.target_of-stop-in-Some.ensures (front_more _ _ _ _ _ _ _ _ c.loop-next.invariant.0 goes c.push-in-Some.ensures.items),
      rw c.push-in-Some.ensures.items (c.insert-in-Some.ensures.more _ c.loop-next.invariant.1),
    )

is_walk : (c : goal.In_default) → IsWalk c.args.graph.now c.args.start c.args.port c.args.most c.loop-next.nodes.items
is_walk c =
    let ends = rw c.deref.ensures.0 at c.in_default.ensures in
    front_ends _ _ _ _ _ _ c.loop-next.invariant.0 ends

pub returns-clause-nodes : goal.returns-clause-nodes
returns-clause-nodes c = only_walk _ _ _ _ _ (is_walk c)

pub returns-clause-stop : goal.returns-clause-stop
returns-clause-stop c =
    c.loop-next.invariant.0.leads ∙ ap (stop_of c.args.graph.now c.args.port) (only_walk _ _ _ _ _ (is_walk c))

pub returns-clause-there : goal.returns-clause-there
returns-clause-there c = begun_below _ _ _ _ _ c.requires.graph c.requires.course.starts (is_walk c)
