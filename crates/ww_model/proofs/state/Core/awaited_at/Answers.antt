use Rattle.std.proofs.Common.{◌≡◌, ◌≢◌, ◌⊎◌, sym, ◌∙◌, subst, true≢false}
use Rattle.ww_model.specs.declared.state.Holder.{Holder}
use Rattle.ww_model.specs.declared.state.Holder.TheVariants.{Taken, Handed}
use Rattle.ww_model.specs.Waits.{Finds}
use Rattle.ww_model.specs.Snapshot.{state_of}
use Rattle.ww_model.proofs.Outcomes.{number_same}
use Rattle.ww_model.proofs.Chains.{awaited_told}
use Rattle.ww_model.proofs.state.Core.awaited_at.Goals as goal

pub returns : goal.returns
returns c = awaited_told (state_of c.args.self.now) c.args.seat c.args.lock c.other_owner.result
    (c.waits_at.ensures.0 c.if-not-waits_at.false)
    (λ inside. true≢false (sym (number_same _ _ (c.guard_at.ensures ∙ inside)) ∙ sym c.is_guard_of.ensures ∙ c.if-is_guard_of.false))
    (subst (λ (h : Holder). Finds (λ b. (c.args.seat ≢ b) × ((h ≡ Taken b) ⊎ (h ≡ Handed b))) c.other_owner.result)
    c.owner_at.ensures c.other_owner.ensures)
