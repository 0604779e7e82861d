use Rattle.std.proofs.Common.{ℕ, ◌∷◌, List, refl, sym, ap, subst, ◌∙◌}
use Rattle.atomic_table.specs.Table.{rest}
use Rattle.ww_plain.specs.declared.node.Node.{Node}
use Rattle.ww_invariant.specs.declared.cells.Cell.{Cell}
use Rattle.ww_invariant.specs.declared.cells.Cell.TheVariants.{Content}
use Rattle.ww_invariant.specs.Out.{numbers_of, AreOthers}
use Rattle.ww_table.proofs.OnTop.{node_up}
use Rattle.ww_table.proofs.Seated.{seated_as}
use Rattle.ww_table.proofs.seat.Stepper.swap_node.Goals as goal

pub swap_there-requires-clause-top : goal.swap_there-requires-clause-top
swap_there-requires-clause-top c = let out = c.requires.out in
    (out.0, (node_up c.args.self.now.seat.me.1 c.bring.new.seat.me.1 c.args.lock out.0 out.1 c.bring.ensures.slots).3)

pub returns : goal.returns
returns c = let b = c.bring.ensures in let out = c.requires.out in let g = c.swap_there.ensures in
    let up = node_up c.args.self.now.seat.me.1 c.bring.new.seat.me.1 c.args.lock out.0 out.1 b.slots in
    let swapped = g.swapped out.0 up.3 in record {
      seat = seated_as c.args.self.now.seat.me.0 c.requires.at (g.home.0 ∙ b.home.0) (g.view ∙ b.view) refl refl
          (b.order ∙ ap numbers_of up.3 ∙ ap numbers_of (sym swapped.1));
      records = refl;
      swapped = (
        up.0,
        subst (λ (y : Node). AreOthers c.args.self.now.seat.me.1 c.args.lock (Content y) up.0) (sym swapped.0) up.1,
        λ i. (
          (g.view ∙ b.view) i,
          (swapped.1 ∙ ap (λ (l : List (ℕ × Cell)). (c.args.lock, Content c.args.new) ∷ rest l) up.2) i,
        ),
      );
    }
