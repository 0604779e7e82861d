use Rattle.std.proofs.Common.{◌∷◌, refl, sym, ap, subst, ◌∙◌}
use Rattle.ww_plain.specs.declared.node.Node.{Node}
use Rattle.ww_invariant.specs.declared.cells.Cell.TheVariants.{Content}
use Rattle.ww_invariant.specs.Rule.{Sat}
use Rattle.ww_invariant.specs.Out.{numbers_of, AreOthers}
use Rattle.ww_table.proofs.OnTop.{node_up}
use Rattle.ww_table.proofs.Seated.{seated_as}
use Rattle.ww_table.proofs.seat.Stepper.node.Goals as goal

pub node_there-requires-clause-top : goal.node_there-requires-clause-top
node_there-requires-clause-top c = let out = c.requires.out in
    (out.0, (node_up c.args.self.now.seat.me.1 c.bring.new.seat.me.1 c.args.lock out.0 out.1 c.bring.ensures.slots).3)

pub returns : goal.returns
returns c = let v = c.args.self.now.seat.me.0 in let b = c.bring.ensures in let out = c.requires.out in let g = c.node_there.ensures in
    let up = node_up c.args.self.now.seat.me.1 c.bring.new.seat.me.1 c.args.lock out.0 out.1 b.slots in
    let is = sym (g.node out.0 up.3) in record {
      seat = seated_as v c.requires.at (g.home.0 ∙ b.home.0) (ap (λ (m : Sat). m.0) g.same ∙ b.view) refl refl
          (b.order ∙ ap (λ (m : Sat). numbers_of m.1) (sym g.same));
      records = refl;
      swapped = (
        up.0,
        subst (λ (y : Node). AreOthers c.args.self.now.seat.me.1 c.args.lock (Content y) up.0) is up.1,
        g.same ∙ (λ i. (b.view i, up.2 i)) ∙ (λ i. (v, (c.args.lock, Content (is i)) ∷ up.0)),
      );
    }
