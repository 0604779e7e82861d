use Rattle.std.proofs.Common.{ℕ, List, length, subst, ◌∙◌, arith}
use Rattle.ww_plain.specs.declared.node.Node.{Node}
use Rattle.ww_invariant.specs.Rule.{first_graph}
use Rattle.ww_seat.specs.declared.bell.Wire.{Wire}
use Rattle.ww_lock.specs.Holding.{Setting}
use Rattle.ww_lock.specs.Opened.{home_at, AreFresh}
use Rattle.ww_lock.proofs.Openings.{fresh_home}
use Rattle.ww_lock.proofs.world.World.open.Goals as goal

pub returns-in-Ok-fresh-clause-ok : goal.returns-in-Ok-fresh-clause-ok
returns-in-Ok-fresh-clause-ok c =
    let m = c.in-Ok-make.ensures.ok in
    let shared = c.in-Ok-make.made.0.table.shared in
    let w : Setting = record {
      home = home_at c.in-Ok-make.made.0 c.in-Ok-rests.wires.items;
      kind = shared.key.kind;
      first = first_graph shared.key;
      passes = length c.in-Ok-rests.wires.items;
    } in
    let all = c.in-Ok-fresh.all.items in
    let count = c.in-Ok-rests.ensures.wires in
    let made = subst (λ (ws : List Wire). AreFresh all w.first (home_at c.in-Ok-make.made.0 ws)
    (length c.in-Ok-make.made.1.items) c.args.budget) c.deref.ensures.value c.in-Ok-fresh.ensures.ok in
    let fresh = subst (λ (k : ℕ). AreFresh all w.first w.home k c.args.budget) (m.seats_are.many ∙ c.from-2.ensures) made in record {
      sizes = record {
        some = omega (arith, c.if-passes-eq0.false);
        few = omega (arith, c.if-passes-gt-MAX_PASSES.false);
        budgeted = omega (arith, c.if-budget-eq0.false);
      };
      first_graph = m.graph_is;
      count = count;
      passes_fresh = subst (λ (g : List Node). AreFresh all g w.home c.args.passes c.args.budget) m.graph_is fresh;
      home = fresh_home w all c.args.passes c.args.budget fresh count;
    }
