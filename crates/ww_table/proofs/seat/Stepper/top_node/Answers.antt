use Rattle.std.proofs.Common.{◌∷◌, refl, sym, ◌∙◌}
use Rattle.ww_invariant.specs.declared.cells.Cell.TheVariants.{Content}
use Rattle.ww_invariant.proofs.InsideTurning.{on_top}
use Rattle.ww_table.proofs.Seated.{stepped}
use Rattle.ww_table.proofs.seat.Stepper.top_node.Goals as goal

pub node_there-requires-clause-top : goal.node_there-requires-clause-top
node_there-requires-clause-top c = let t = c.requires.top in
    (t.0, on_top c.args.self.now.seat.me.1 t.1 c.args.lock c.args.lock (Content t.0) t.2 refl)

pub returns : goal.returns
returns c = let t = c.requires.top in let g = c.node_there.ensures in let v = c.args.self.now.seat.me.0 in
    let is = sym (g.node t.0 (on_top c.args.self.now.seat.me.1 t.1 c.args.lock c.args.lock (Content t.0) t.2 refl)) in
    let now = t.2 ∙ (λ i. (c.args.lock, Content (is i)) ∷ t.1) in record {
      seat = stepped v c.requires.at g.home.0 g.same refl;
      records = refl;
      read = (t.1, now, g.same ∙ (λ i. (v, now i)));
    }
