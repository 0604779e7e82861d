use Rattle.std.proofs.Common.{◌≡◌, ◌∙◌, ◌++◌, ◌∷◌, [], ℕ, List, get_or, map, take, ap, sym, arith}
use Rattle.std.proofs.lemmas.List.{map_more}
use Rattle.ww_plain.specs.declared.node.Node.{Node}
use Rattle.ww_plain.specs.Graph.{node_at}
use Rattle.ww_seat.specs.declared.committing.NodeChange.{NodeChange}
use Rattle.ww_seat.specs.Commits.{change_at}
use Rattle.ww_lock.proofs.Changes.{node_read}
use Rattle.ww_lock.proofs.effects.unchanged.Goals as goal

pub loop-n-preserved : goal.loop-n-preserved
loop-n-preserved c =
    let graph : List Node = c.args.graph.now in
    let ns : List ℕ = c.args.nodes.now in
    let i : ℕ = c.loop-n.n-index in
    let n : ℕ = get_or ns i 0 in
    let x : Node = c.node-node.result in
    let read : node_at graph n ≡ x = node_read graph n x c.node-node.ensures in
    let so_far : List NodeChange = map (change_at graph graph) (take i ns) in
    let here : so_far ++ (record { number = n; before = x; after = x }) ∷ []
    ≡ so_far ++ change_at graph graph n ∷ [] =
    ap (λ (y : Node). so_far ++ (record { number = n; before = y; after = y }) ∷ []) (sym read) in (
      c.push_reserved.ensures.items ∙ ap (λ (l : List NodeChange). l ++
          (record { number = n; before = x; after = x }) ∷ []) c.loop-n.invariant.0 ∙ here
          ∙ sym (map_more (change_at graph graph) ns i 0 (omega arith)),
      omega arith,
    )
