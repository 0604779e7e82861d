use Rattle.std.proofs.Common.{ℕ, List, sym, ◌∙◌, subst, true≢false}
use Rattle.ww_queue.specs.Queue.{Has}
use Rattle.ww_model.proofs.state.Core.is_paid.Goals as goal

pub returns-else-all_signed : goal.returns-else-all_signed
returns-else-all_signed c = (
  λ is. absurd (true≢false (sym is ∙ c.if-all_signed.false)),
  λ paid. c.all_signed.ensures.1 (λ v k h. paid.signed v k
      (subst (λ (pairs : List (ℕ × ℕ)). Has pairs (v, k)) (c.as_slice.ensures.value ∙ c.owes-owed.ensures) h)),
)
