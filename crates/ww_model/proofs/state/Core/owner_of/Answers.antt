use Rattle.std.proofs.Common.{◌≡◌, ◌<◌, ◌⊎◌, ⊎_elim, inl, inr, ℕ, length, sym, ◌∙◌, subst}
use Rattle.std.proofs.lemmas.List.{get_or_read}
use Rattle.ww_model.specs.declared.state.Holder.TheVariants.{Nobody, Taken, Handed}
use Rattle.ww_model.specs.Core.{snapshot_of}
use Rattle.ww_model.specs.Snapshot.{Snapshot, state_of}
use Rattle.ww_model.proofs.Ranges.{owners_are_seats}
use Rattle.ww_model.proofs.state.Core.owner_of.Goals as goal

pub returns-clause-seat : goal.returns-clause-seat
returns-clause-seat c =
    let there = subst (λ (s : Snapshot). c.args.lock < length s.owners) (sym c.self.view_is) c.requires in
    let is = sym (get_or_read c.self.inside.owners.items c.args.lock _ there c.index.ensures Nobody) in
    subst (λ (s : Snapshot). (seat : ℕ) → (c.index.result.now ≡ Taken seat) ⊎ (c.index.result.now ≡ Handed seat)
    → seat < (state_of s).seats) c.self.view_is
    (λ seat owned. owners_are_seats (state_of (snapshot_of c.self.inside)) c.self.invariant.reached c.args.lock seat
    (⊎_elim (λ o. inl (is ∙ o)) (λ o. inr (is ∙ o)) owned))
