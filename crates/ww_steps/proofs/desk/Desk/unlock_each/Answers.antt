use Rattle.std.proofs.Common.{false, refl, ◌+◌, ℕ, ap, subst, ◌∙◌, Bool, inl, inr, ⊎_elim}
use Rattle.ww_plain.specs.Numbers.{is_among}
use Rattle.ww_steps.specs.Situations.{Situation}
use Rattle.ww_steps.specs.Answers.{IsGivenOrKept}
use Rattle.ww_steps.proofs.Keeping.{released_on}
use Rattle.ww_steps.proofs.desk.Desk.unlock_each.Goals as goal

pub returns-then-not-releases-clause-answer : goal.returns-then-not-releases-clause-answer
returns-then-not-releases-clause-answer c =
    let i = c.loop-lock.invariant in let s = c.loop-lock.self in let s' = c.releases.new.self in let n = c.in-Some.lock.now in
    let lost : IsGivenOrKept s n false s' = subst (λ (b : Bool). IsGivenOrKept s n b s') c.if-not-releases.true c.releases.ensures in (
      c.loop-lock.left.now,
      i.parts.0,
      i.parts.1,
      refl,
      released_on c.args.self.now s s' i.parts.0 i.parts.2 lost.0 lost.1,
      inr (
        c.in-Some.others.now,
        n,
        c.in-Some.ensures.cases.0,
        ⊎_elim (λ lacks. inl (ap (λ (x : Situation). is_among n x.held) lost.1 ∙ lacks))
            (λ vain. inr (vain ∙ ap (λ (k : ℕ). k + 1) i.kept)) lost.2,
      ),
    )
