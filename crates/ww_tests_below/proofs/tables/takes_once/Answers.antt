use Rattle.std.proofs.Common.{arith, length, sym, ap, ◌∙◌, subst}
use Rattle.ww_view.specs.May.{MayFast}
use Rattle.ww_invariant.specs.declared.cells.Sight.{Sight}
use Rattle.ww_invariant.specs.Rule.{Sat}
use Rattle.ww_invariant.specs.Steps.{MayDraw, drawing}
use Rattle.ww_tests_below.proofs.FirstSteps.{may_draw, may_fast}
use Rattle.ww_tests_below.proofs.tables.takes_once.Goals as goal

pub draw-requires-clause-may : goal.draw-requires-clause-may
draw-requires-clause-may c = subst (λ (m : Sat). MayDraw m.0.part) (sym c.requires.new.1.me) (may_draw _ _ _ c.requires.new.0)

pub take_free-requires-clause-may : goal.take_free-requires-clause-may
take_free-requires-clause-may c = let d = c.in-Some.ensures in let view = ap (λ (m : Sat). m.0) d.drew
    ∙ ap (λ (m : Sat). drawing m.0 c.in-Some.field-0) c.requires.new.1.me in
    let long = ap (λ (m : Sat). length m.1) d.drew ∙ ap (λ (m : Sat). length m.1) c.requires.new.1.me in record {
      lock = c.requires.node;
      may = subst (λ (v : Sight). MayFast v.part.core) (sym view) (may_fast _ _ _ c.requires.new.0 c.in-Some.field-0 d.context);
      room = omega arith;
    }
