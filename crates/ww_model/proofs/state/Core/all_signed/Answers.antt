use Rattle.std.proofs.Common.{ℕ, List, take, get_or, sym, ap, ◌∙◌, subst, ⊎_elim, true≢false}
use Rattle.std.proofs.lemmas.List.{take_more}
use Rattle.ww_queue.specs.Queue.{Has}
use Rattle.ww_model.specs.Snapshot.{state_of}
use Rattle.ww_model.proofs.Slots.{has_at, has_last}
use Rattle.ww_model.proofs.state.Core.all_signed.Goals as goal

pub returns-then-sign_at-eq0 : goal.returns-then-sign_at-eq0
returns-then-sign_at-eq0 c = let pair = get_or c.args.owed.now c.loop-pair.pair-index (0, 0) in (
  λ f. absurd (true≢false (sym f)),
  λ all. absurd (all pair.0 pair.1 (has_at c.args.owed.now c.loop-pair.pair-index (0, 0) c.loop-pair-test.true)
      (sym c.sign_at.ensures ∙ c.if-sign_at-eq0.true)),
)

pub loop-pair-preserved : goal.loop-pair-preserved
loop-pair-preserved c = let pair = get_or c.args.owed.now c.loop-pair.pair-index (0, 0) in
    λ v k h. ⊎_elim
    (c.loop-pair.invariant v k)
    (λ is none. c.if-sign_at-eq0.false (c.sign_at.ensures ∙ ap (λ (p : ℕ × ℕ). (state_of c.args.self.now).sign p.0) (sym is) ∙ none))
    (has_last (take c.loop-pair.pair-index c.args.owed.now) pair (v, k)
    (subst (λ (pairs : List (ℕ × ℕ)). Has pairs (v, k)) (take_more c.args.owed.now c.loop-pair.pair-index (0, 0) c.loop-pair-test.true) h))
