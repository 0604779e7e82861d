-- Data under a lock, of desks: what a drive is for memory.
use Rattle.std.proofs.Common.{◌≡◌, ⊎_elim, inl, inr, ℕ, suc, Some, sym, ap, ◌∙◌, subst}
use Rattle.ww_model.specs.declared.state.Holder.{Holder}
use Rattle.ww_model.specs.declared.state.Holder.TheVariants.{Nobody, Taken, Handed}
use Rattle.ww_model.specs.declared.event.Event.{Event}
use Rattle.ww_model.specs.declared.event.Event.TheVariants.{Fast, FastGive, Take, Give}
use Rattle.ww_model.specs.Event.{actor}
use Rattle.ww_model.specs.State.{State}
use Rattle.ww_laws.specs.Scene.{Scene, performs}
use Rattle.ww_laws.proofs.Steps.{taken_or_not, given_by}
use Rattle.ww_laws.proofs.Contexts.{gained_next}
use Rattle.ww_refines.specs.Moment.{core}
use Rattle.ww_refines.specs.Endless.{step_of}
use Rattle.ww_refines.proofs.Following.{knows_there, who_there}
use Rattle.ww_refines.proofs.Unlocking.{performed}
use Rattle.ww_refines.proofs.Ends.{runs_along}
use Rattle.ww_protocols.specs.Data.{takes, releases}
use Rattle.ww_protocols.proofs.Data.{reads_get_the_last_write}
use Rattle.ww_callers.specs.Deeds.{steps}
use Rattle.ww_callers.specs.Drives.{thread_move}
use Rattle.ww_callers.specs.Data.{DataAct, does, accesses, as_deed, seen, owner_of, DrivesAreGuarded, ReadsGetTheLastWriteInDrives}
use Rattle.ww_callers.proofs.Runs.{event_by, driven_by, is_endless_by}
use Rattle.ww_callers.proofs.Passing.{in_hand}

is_taken : (o : Holder) (t : ℕ) → owner_of o ≡ Some t → o ≡ Taken t
is_taken (Taken s) t is = ap Taken (let z : s ≡ t = cc in z)
is_taken Nobody t is = absurd (cc)
is_taken (Handed s) t is = absurd (cc)

-- what a step that takes a lock is for memory, and one that releases it
module _ (d n : ℕ) where
  seen_fast : (a : DataAct) → as_deed a ≡ steps d (Some (performs (Fast d n))) → seen a ≡ takes d n
  seen_fast (does deed) is = ap (λ x. seen (does x)) is
  seen_fast (accesses a) is = absurd (cc)

  seen_take : (a : DataAct) → as_deed a ≡ steps d (Some (performs (Take d n))) → seen a ≡ takes d n
  seen_take (does deed) is = ap (λ x. seen (does x)) is
  seen_take (accesses a) is = absurd (cc)

  seen_fast_give : (a : DataAct) → as_deed a ≡ steps d (Some (performs (FastGive d n))) → seen a ≡ releases d n
  seen_fast_give (does deed) is = ap (λ x. seen (does x)) is
  seen_fast_give (accesses a) is = absurd (cc)

  seen_give : (a : DataAct) → as_deed a ≡ steps d (Some (performs (Give d n))) → seen a ≡ releases d n
  seen_give (does deed) is = ap (λ x. seen (does x)) is
  seen_give (accesses a) is = absurd (cc)

pub drives_are_guarded : DrivesAreGuarded
drives_are_guarded key lock_of stage act keeps =
    let endless = keeps.endless in
    let a = runs_along (λ k. (stage k).moment) (λ k. thread_move (as_deed (act k))) (is_endless_by stage (λ k. as_deed (act k)) endless) in
    let core_at : (k n u : ℕ) → (core (stage k).moment).owner n ≡ Taken u → (a.scene k).core.owner n ≡ Taken u =
    λ k n u is. ap (λ (c : State). c.owner n) (a.shown k).core ∙ is in
    let at_core : (k n u : ℕ) → (a.scene k).core.owner n ≡ Taken u → (core (stage k).moment).owner n ≡ Taken u =
    λ k n u is. sym (ap (λ (c : State). c.owner n) (a.shown k).core) ∙ is in
    let by_desk : (k : ℕ) (e : Event) → step_of key (thread_move (as_deed (act k))) ≡ performs e →
    as_deed (act k) ≡ steps (actor e) (Some (performs e)) = λ k e is.
    event_by (stage k) (stage (suc k)) (driven_by stage (λ i. as_deed (act i)) endless k) (as_deed (act k)) e (endless.goes_on k)
    (performed key (thread_move (as_deed (act k))) e is) in record {
      comes = λ i t n has. ⊎_elim
          (λ had. inl (ap owner_of had))
          (λ not. inr (⊎_elim
          (λ is. seen_fast t n (act i) (by_desk i (Fast t n) is))
          (λ is. seen_take t n (act i) (by_desk i (Take t n) is))
          (gained_next (a.scene i) (step_of key (thread_move (as_deed (act i)))) t n (λ z. not (at_core i n t z))
          (subst (λ (w : Scene). w.core.owner n ≡ Taken t) (a.run.goes_on i)
          (core_at (suc i) n t (is_taken ((core (stage (suc i)).moment).owner n) t has))))))
          (taken_or_not ((core (stage i).moment).owner n) t);
      goes = λ i t n has. ⊎_elim
          (λ still. inl (ap owner_of still))
          (λ not. inr (⊎_elim
          (λ is. seen_fast_give t n (act i) (by_desk i (FastGive t n) is))
          (λ is. seen_give t n (act i) (by_desk i (Give t n) is))
          (given_by (a.scene i) (step_of key (thread_move (as_deed (act i)))) t n (a.run.may i)
          (core_at i n t (is_taken ((core (stage i).moment).owner n) t has))
          (λ z. not (at_core (suc i) n t (subst (λ (w : Scene). w.core.owner n ≡ Taken t) (sym (a.run.goes_on i)) z))))))
          (taken_or_not ((core (stage (suc i)).moment).owner n) t);
      has = λ i d x made. let h = keeps.locked i d x made in let m = (stage i).moment in
          ap owner_of ((knows_there m d h.seat).owned.has (lock_of x)
          (in_hand (stage i) (driven_by stage (λ k. as_deed (act k)) endless i) d (lock_of x) h)
          ∙ ap Taken (who_there m d h.seat));
    }

pub reads_get_the_last_write_in_drives : ReadsGetTheLastWriteInDrives
reads_get_the_last_write_in_drives key lock_of stage act keeps = reads_get_the_last_write lock_of
    (λ i n. owner_of ((core (stage i).moment).owner n)) (λ i. seen (act i)) (drives_are_guarded key lock_of stage act keeps)
