use Rattle.std.proofs.Common.{ℕ, List, replicate, sym, ap, ◌∙◌, subst}
use Rattle.atomic_table.specs.Table.{opening}
use Rattle.ww_invariant.specs.declared.cells.Start.{Start}
use Rattle.std.proofs.Common.{arith}
use Rattle.ww_invariant.specs.Rule.{Ruled, IsSize, first_sight, nodes_of}
use Rattle.ww_invariant.proofs.Totals.{is_size}
use Rattle.ww_invariant.proofs.NodesAfter.{of_graph}
use Rattle.ww_table.proofs.Making.{opens_made}
use Rattle.ww_table.proofs.make.lay.Goals as goal

pub new-requires : goal.new-requires
new-requires c = let key : Start = record { kind = c.args.kind; locks = c.args.locks; seats = c.args.seats; places = c.places-places.result; nodes = c.of.result; bare = c.args.bare } in
    subst (λ (words : List ℕ). Ruled key (opening words c.in_ok-slots.slots.items (first_sight key)))
    (sym (c.deref.ensures.value ∙ c.in_ok-zeros.ensures.items_if_clones_equal (λ y is. is)
    ∙ ap (λ (n : ℕ). replicate n 0) c.words.ensures))
    (opens_made key (nodes_of c.args.bare c.args.graph.now) _ (ap (nodes_of c.args.bare) c.of.ensures) c.requires.seats.0
    (let z = c.places-places.ensures in let y = (is_size c.args.seats c.requires.seats.1).1 in omega arith)
    (subst IsSize (sym c.places-places.ensures) (is_size c.args.seats c.requires.seats.1).0) c.requires.locks.1
    c.requires.locks.0 (of_graph c.args.bare c.args.graph.now c.size_of-size.ensures.graph) c.in_ok-slots.ensures)
