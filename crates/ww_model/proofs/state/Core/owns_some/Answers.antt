use Rattle.std.proofs.Common.{◌≡◌, ◌↔◌, IsTrue, refl, sym, ap, ◌∙◌, subst}
use Rattle.std.specs.List.{list_any}
use Rattle.ww_model.specs.declared.state.Holder.TheVariants.{Nobody, Taken}
use Rattle.ww_model.specs.State.{OwnsSome, owns_some, is_taken_by}
use Rattle.ww_model.specs.Snapshot.{Snapshot, state_of}
use Rattle.ww_model.proofs.Outcomes.{taken_true}
use Rattle.ww_model.proofs.Outcomes.{true_taken}
use Rattle.ww_model.proofs.Slots.{below_any, any_tells}
use Rattle.ww_model.proofs.state.Core.owns_some.Goals as goal

pub returns-clause-same : goal.returns-clause-same
returns-clause-same c = subst (λ (s : Snapshot). c.any_taken_by.result ≡ owns_some (state_of s) c.args.seat) c.self.view_is
    (c.any_taken_by.ensures ∙ ap (list_any (is_taken_by c.args.seat)) c.deref.ensures.value
    ∙ sym (below_any (is_taken_by c.args.seat) c.self.inside.owners.items Nobody refl))

pub returns-clause-some : goal.returns-clause-some
returns-clause-some c = subst (λ (s : Snapshot). IsTrue c.any_taken_by.result ↔ OwnsSome (state_of s) c.args.seat) c.self.view_is
    (rw (c.any_taken_by.ensures, c.deref.ensures.value)
    (any_tells (is_taken_by c.args.seat) c.self.inside.owners.items Nobody (λ h. h ≡ Taken c.args.seat) refl
    (taken_true c.args.seat) (true_taken c.args.seat)))
