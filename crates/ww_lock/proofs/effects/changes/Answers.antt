use Rattle.std.proofs.Common.{◌≡◌, ◌∙◌, ℕ, List, map, ap, subst, arith}
use Rattle.ww_plain.specs.declared.node.Node.{Node}
use Rattle.ww_plain.specs.Graph.{no_node}
use Rattle.ww_plain.specs.Footprint.{footprint_of}
use Rattle.ww_plain.specs.Transaction.{transaction_of}
use Rattle.ww_plain.specs.Meaning.{Answer, graph_after}
use Rattle.ww_plain.proofs.Kept.{sized_after}
use Rattle.ww_plain.proofs.Frames.{outside, different_footprint}
use Rattle.ww_seat.specs.declared.committing.NodeChange.{NodeChange}
use Rattle.ww_seat.specs.Commits.{change_at}
use Rattle.ww_lock.proofs.Footprints.{IsGoingBack, goes_back, many_changes, number_there, node_fits, next_back, is_back, written_back}
use Rattle.ww_lock.proofs.effects.changes.Goals as goal

abbrev none : NodeChange
none = record { number = 0; before = no_node; after = no_node }

pub loop-change-init : goal.loop-change-init
loop-change-init c =
    let graph : List Node = c.args.graph.now in
    let txn = transaction_of c.args.txn.now in
    let ns : List ℕ = footprint_of graph txn in
    let items : List NodeChange = c.deref_mut-change-items.result.now in
    let new : graph_after graph txn ≡ c.apply.new.graph = ap (λ (m : Answer × List Node). m.1) c.in_ok-reply.ensures.ok in
    let are : items ≡ map (change_at graph graph) ns = c.deref_mut-change-items.ensures.value
    ∙ c.in_ok-changes.ensures ∙ ap (λ (l : List ℕ). map (change_at graph graph) l)
    (c.deref.ensures.0 ∙ c.footprint-nodes.ensures) in
    subst (λ (g : List Node). IsGoingBack graph (graph_after graph txn) ns 0 items g) new
    (goes_back graph (graph_after graph txn) ns items
    (sized_after graph txn c.size-size.ensures.graph c.requires.fits).length_is (outside graph txn) are)

pub node-change-requires : goal.node-change-requires
node-change-requires c = number_there c.args.graph.now _ _ c.loop-change.change-index c.loop-change.change-items
    c.loop-change.graph none c.loop-change.invariant c.requires.there (omega arith)

pub put-requires-clause-there : goal.put-requires-clause-there
put-requires-clause-there c = number_there c.args.graph.now _ _ c.loop-change.change-index
    c.loop-change.change-items c.loop-change.graph none c.loop-change.invariant c.requires.there (omega arith)

pub put-requires-clause-node : goal.put-requires-clause-node
put-requires-clause-node c = node_fits c.args.graph.now _ _ c.loop-change.change-index c.loop-change.change-items
    c.loop-change.graph none c.loop-change.invariant c.size-size.ensures.graph (omega arith)

pub loop-change-preserved : goal.loop-change-preserved
loop-change-preserved c =
    let graph : List Node = c.args.graph.now in
    let txn = transaction_of c.args.txn.now in
    next_back graph (graph_after graph txn) (footprint_of graph txn) c.loop-change.change-index
    c.loop-change.change-items c.loop-change.graph c.put.new.self none c.node-change.result
    c.loop-change.invariant
    (different_footprint graph txn c.requires.fits) c.requires.there (omega arith) c.node-change.ensures c.put.ensures

pub returns-clause-same : goal.returns-clause-same
returns-clause-same c =
    let graph : List Node = c.args.graph.now in
    let txn = transaction_of c.args.txn.now in
    let i = c.loop-change in
    let long = many_changes graph (graph_after graph txn) (footprint_of graph txn) i.change-index i.change-items i.graph i.invariant in
    (is_back graph (graph_after graph txn) (footprint_of graph txn) i.change-index i.change-items i.graph (omega arith) i.invariant).0

pub returns-clause-changes : goal.returns-clause-changes
returns-clause-changes c =
    let graph : List Node = c.args.graph.now in
    let txn = transaction_of c.args.txn.now in
    let i = c.loop-change in
    let vector = c.in_ok-changes.changes in
    let long = many_changes graph (graph_after graph txn) (footprint_of graph txn) i.change-index i.change-items i.graph i.invariant in
    written_back vector.len i.change-items vector.items (omega (arith, vector.ok.0))
    (omega (arith, vector.ok.0, i.auto.change-items, c.deref_mut-change-items.ensures.len))
    ∙ (is_back graph (graph_after graph txn) (footprint_of graph txn) i.change-index i.change-items i.graph (omega arith) i.invariant).1
