use Rattle.std.proofs.Common.{arith, length, ap, sym, ◌∙◌, subst, true≢false}
use Rattle.std.specs.Slots.{slots_items}
use Rattle.ww_plain.specs.Graph.{IsGraph}
use Rattle.ww_invariant.specs.Records.{somes}
use Rattle.ww_table.proofs.Ends.{content_there, nodes_are, closes, written}
use Rattle.ww_table.proofs.board.Board.close_in.Goals as goal

pub nodes_of-nodes-requires-clause-nodes : goal.nodes_of-nodes-requires-clause-nodes
nodes_of-nodes-requires-clause-nodes c = let f = c.close_with.ensures.values.2 in let size = c.args.self.size_is in
    λ n low. content_there c.args.self.table.shared.key f.0 f.1.0 c.args.self.table.shared.table_id
    c.gather-token.result.id c.gather-token.result c.args.seats.items _ c.gather-token.new.places f.1.1
    c.requires.come c.gather-token.ensures
    (slots_items c.close_with.result.slots) f.4 n (omega arith)

pub unreachable-requires : goal.unreachable-requires
unreachable-requires c = let f = c.close_with.ensures.values.2 in let size = c.args.self.size_is in let n = c.nodes_of-nodes.ensures in
    let are = nodes_are c.args.self.table.shared.key f.0 f.1.0 c.args.self.table.shared.table_id
    c.gather-token.result.id c.gather-token.result c.args.seats.items _ c.gather-token.new.places f.1.1
    c.requires.come c.gather-token.ensures
    (slots_items c.close_with.result.slots) c.nodes_of-nodes.result.items f.4 (n.many ∙ size) (λ k x low e. n.same k x (omega arith) e) in
    let r = f.1.0.counted in
    let is : IsGraph _ = record { some = omega (arith, c.requires.graph, r.size); few = r.graph.few; closed = r.graph.closed } in
    true≢false (sym (c.in_default.ensures.ok.1 (subst IsGraph (sym are) is)))

pub returns : goal.returns
returns c = let f = c.close_with.ensures.values.2 in let size = c.args.self.size_is in
    let n = c.nodes_of-nodes.ensures in let g = c.gather-token.ensures in
    let are = nodes_are c.args.self.table.shared.key f.0 f.1.0 c.args.self.table.shared.table_id
    c.gather-token.result.id c.gather-token.result c.args.seats.items _ c.gather-token.new.places f.1.1
    c.requires.come g
    (slots_items c.close_with.result.slots) c.nodes_of-nodes.result.items f.4 (n.many ∙ size) (λ k x low e. n.same k x (omega arith) e) in
    closes c.args.self.table.shared.key f.0 f.1.0 c.args.self.table.shared.table_id c.gather-token.result.id
    c.gather-token.result c.args.seats.items _ c.gather-token.new.places f.1.1 c.requires.come g
    c.in_order-records.result.items c.in-Ok.graph
    (c.in_order-records.ensures ∙ ap somes
    (written c.args.rooms.places.len c.gather-token.new.places _
    (g.size ∙ (let v = ap length c.deref_mut.ensures.value in let o = c.args.rooms.places.ok in omega arith))))
    (c.in-Ok.ensures.kept ∙ are)
