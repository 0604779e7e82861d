-- A lock passes from one thread to another, as scenes have it.
use Rattle.std.proofs.Common.{◌≡◌, ◌⊎◌, inl, inr, ⊎_elim, ℕ, ◌<◌, true, Option, Some, sym, ap, ◌∙◌}
use Rattle.ww_model.specs.declared.state.Holder.TheVariants.{Taken}
use Rattle.ww_model.specs.declared.event.Event.{Event}
use Rattle.ww_model.specs.declared.event.Event.TheVariants.{Fast, FastGive, Take, Give}
use Rattle.ww_model.specs.State.{State}
use Rattle.ww_view.specs.View.{owns}
use Rattle.ww_invariant.specs.declared.cells.Start.{Start}
use Rattle.ww_laws.specs.Scene.{Step, performs}
use Rattle.ww_laws.proofs.Passing.{owners_hand_over}
use Rattle.ww_refines.specs.Moment.{Moment, core, view}
use Rattle.ww_refines.specs.Endless.{step_of}
use Rattle.ww_refines.specs.Handing.{OwnersHandOverInRuns}
use Rattle.ww_refines.proofs.Following.{knows_there, who_there}
use Rattle.ww_refines.proofs.Unlocking.{performed}
use Rattle.ww_refines.proofs.Ends.{runs_along}

-- what a view tells of an owner
taken_there : {key : Start} (m : Moment key) (t n : ℕ) → t < key.seats → owns (view m t) n ≡ true → (core m).owner n ≡ Taken t
taken_there m t n low has = (knows_there m t low).owned.has n has ∙ ap Taken (who_there m t low)

owns_there : {key : Start} (m : Moment key) (t n : ℕ) → t < key.seats → (core m).owner n ≡ Taken t → owns (view m t) n ≡ true
owns_there m t n low has = (knows_there m t low).owned.lacks n (has ∙ ap Taken (sym (who_there m t low)))

either : (key : Start) (x : Option Step) (d e : Event) → (step_of key x ≡ performs d) ⊎ (step_of key x ≡ performs e) →
    (x ≡ Some (performs d)) ⊎ (x ≡ Some (performs e))
either key x d e = ⊎_elim (λ is. inl (performed key x d is)) (λ is. inr (performed key x e is))

pub owners_hand_over_in_runs : OwnersHandOverInRuns
owners_hand_over_in_runs key moment move endless i j s t n = λ later low few own has other.
    let a = runs_along moment move endless in
    let core_at : (k u : ℕ) → (core (moment k)).owner n ≡ Taken u → (a.scene k).core.owner n ≡ Taken u =
    λ k u is. ap (λ (c : State). c.owner n) (a.shown k).core ∙ is in
    let at_core : (k u : ℕ) → (a.scene k).core.owner n ≡ Taken u → (core (moment k)).owner n ≡ Taken u =
    λ k u is. sym (ap (λ (c : State). c.owner n) (a.shown k).core) ∙ is in
    let p = owners_hand_over a.scene (λ k. step_of key (move k)) a.run i j s t n later
    (core_at i s (taken_there (moment i) s n low own)) (core_at j t (taken_there (moment j) t n few has)) other in
    record {
      released = p.released;
      taken = p.taken;
      from = p.from;
      order = p.order;
      before = p.before;
      until = λ k x y. owns_there (moment k) s n low (at_core k s (p.until k x y));
      gives = either key (move p.released) (FastGive s n) (Give s n) p.gives;
      takes = either key (move p.taken) (Fast t n) (Take t n) p.takes;
      since = λ k x y. owns_there (moment k) t n few (at_core k t (p.since k x y));
    }
