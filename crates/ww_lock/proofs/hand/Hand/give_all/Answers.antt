use Rattle.std.proofs.Common.{ℕ, List, true≢false, sym, ap, arith, length, ◌∙◌}
use Rattle.ww_plain.specs.Numbers.{is_among}
use Rattle.ww_lock.specs.Holding.{Holding}
use Rattle.ww_lock.specs.Carried.{held_of, holding_of}
use Rattle.ww_lock.proofs.Carrying.{none_held}
use Rattle.ww_lock.proofs.Changes.{many}
use Rattle.ww_lock.proofs.hand.Hand.give_all.Goals as goal

pub returns-clause-emptied : goal.returns-clause-emptied
returns-clause-emptied g c =
    let none = sym (ap held_of c.self.view_is) ∙ none_held c.self.inside c.self.invariant c.in_default.ensures.none in
    c.loop-n.invariant ∙ ap (λ (ns : List ℕ). record (holding_of c.args.self.now) { held = ns }) none

pub returns-clause-fresh : goal.returns-clause-fresh
returns-clause-fresh g c = λ f.
    let none = sym (ap held_of c.self.view_is) ∙ none_held c.self.inside c.self.invariant c.in_default.ensures.none in
    record {
      seen = λ n among. absurd (true≢false (sym among ∙ ap (is_among n) none));
      commits = omega (
        arith,
        f.commits,
        many c.args.self.now.seat.me.0.part.own,
        many c.loop-n.self.seat.me.0.part.own,
        ap (λ (s : Holding). length s.own) c.loop-n.invariant,
        ap (λ (s : Holding). s.left) c.loop-n.invariant,
      );
    }
