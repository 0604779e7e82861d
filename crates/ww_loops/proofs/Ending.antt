-- Contexts are over, and the oldest is served, by the laws of runs of threads.
use Rattle.std.proofs.Common.{◌≡◌, ⊎_elim, inl, inr, ℕ, suc, ◌<◌, Some, sym, subst}
use Rattle.ww_model.specs.declared.event.Event.{Event}
use Rattle.ww_model.specs.declared.event.Event.TheVariants.{Take, Leave}
use Rattle.ww_model.specs.Event.{actor}
use Rattle.ww_model.specs.State.{State}
use Rattle.ww_invariant.specs.declared.cells.Start.{Start}
use Rattle.ww_laws.specs.Scene.{Scene, performs}
use Rattle.ww_laws.specs.Premises.{HoldersRelease, ContextsEndOrDie, BacksOff, TakesContendedFirst, IsOldestActive, RestsOn, IsOver}
use Rattle.ww_refines.specs.Moment.{core}
use Rattle.ww_refines.specs.Contexts.{AllAreScheduled}
use Rattle.ww_refines.specs.Endless.{RunsAlong}
use Rattle.ww_refines.proofs.Ends.{runs_along}
use Rattle.ww_refines.proofs.Serving.{contexts_are_over_in_runs, oldest_is_served_in_runs}
use Rattle.ww_callers.specs.Stages.{Stage}
use Rattle.ww_callers.specs.Deeds.{Deed, steps, Accounts}
use Rattle.ww_callers.specs.Drives.{thread_move, IsEndlessDriveBy}
use Rattle.ww_callers.proofs.Runs.{event_by, driven_by, is_endless_by, drives_run_on}
use Rattle.ww_loops.specs.Contexts.{as_scenes, steps_by, AllAreServed, ContextsAreOverInDrives, OldestIsServedInDrives}

module _ {key : Start} (stage : ℕ → Stage key) (deed : ℕ → Deed) (endless : IsEndlessDriveBy Accounts stage deed) where
  -- the run of the scene that the drive shows
  abbrev pub along : RunsAlong (λ j. (stage j).moment) (λ j. thread_move (deed j))
  along = runs_along (λ j. (stage j).moment) (λ j. thread_move (deed j)) (is_endless_by stage deed endless)

  abbrev with_locks : (ℕ → State) → ℕ → Scene
  with_locks c i = record (along.scene i) { core = c i }

  -- what holds of the locks of the stages, whoever sleeps, holds of that run
  pub to_run : (P : (ℕ → Scene) → Type 0) → P (with_locks (λ i. core (stage i).moment)) → P along.scene
  to_run P h = subst (λ (c : ℕ → State). P (with_locks c)) (λ x i. sym (along.shown i).core x) h

  pub from_run : (P : (ℕ → Scene) → Type 0) → P along.scene → P (with_locks (λ i. core (stage i).moment))
  from_run P h = subst (λ (c : ℕ → State). P (with_locks c)) (λ x i. (along.shown i).core x) h

  pub oldest_there : (s i : ℕ) → IsOldestActive (as_scenes stage) (steps_by key deed) s i → IsOldestActive along.scene (steps_by key deed) s i
  oldest_there s i old = record {
    context = to_run (λ w. 0 < (w i).core.stamp s) old.context;
    older = to_run (λ w. (t : ℕ) → 0 < (w i).core.stamp t → (w i).core.stamp t < (w i).core.stamp s →
        RestsOn w (steps_by key deed) t i) old.older;
  }

  pub all_scheduled : AllAreServed stage deed → AllAreScheduled (λ j. (stage j).moment) (λ j. thread_move (deed j))
  all_scheduled served s low = drives_run_on.scheduled key stage deed endless s (served s low)

  pub event_at : (j : ℕ) (e : Event) → thread_move (deed j) ≡ Some (performs e) → deed j ≡ steps (actor e) (Some (performs e))
  event_at j e is = event_by (stage j) (stage (suc j)) (driven_by stage deed endless j) (deed j) e (endless.goes_on j) is

pub contexts_are_over_in_drives : ContextsAreOverInDrives
contexts_are_over_in_drives key stage deed endless served release ends backs = λ tries i s kind some.
    let st = steps_by key deed in let a = along stage deed endless in
    let over = contexts_are_over_in_runs key (λ j. (stage j).moment) (λ j. thread_move (deed j)) (is_endless_by stage deed endless)
    (all_scheduled stage deed endless served) a (to_run stage deed endless (λ w. HoldersRelease w st) release)
    (to_run stage deed endless (λ w. ContextsEndOrDie w st) ends) (to_run stage deed endless (λ w. BacksOff w st) backs)
    (to_run stage deed endless (λ w. TakesContendedFirst w st) tries) i s kind some in
    (over.0, over.1, from_run stage deed endless (λ w. IsOver w st s over.0) over.2)

pub oldest_is_served_in_drives : OldestIsServedInDrives
oldest_is_served_in_drives key stage deed endless served release i s n = λ kind old unsigned owns waits.
    let st = steps_by key deed in let a = along stage deed endless in
    let end = oldest_is_served_in_runs key (λ j. (stage j).moment) (λ j. thread_move (deed j)) (is_endless_by stage deed endless)
    (all_scheduled stage deed endless served) a (to_run stage deed endless (λ w. HoldersRelease w st) release) i s n kind
    (oldest_there stage deed endless s i old) unsigned owns waits in
    let at = event_at stage deed endless end.0 in
    (end.0, end.1, ⊎_elim (λ is. inl (at (Take s n) is)) (λ is. inr (at (Leave s n) is)) end.2)
