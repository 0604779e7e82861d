-- Endless runs of threads.
use Rattle.std.proofs.Common.{◌≡◌, ◌≢◌, ℕ, zero, suc, ◌<◌, ◌≤◌, Bool, true, false, Option, Some, None, refl, sym, ap, ◌∙◌, subst, arith, lt_of_not-le}
use mathlib.Core.Logic.{dite}
use native.Mathlib.Decide.{ℕ_discrete, dec_le}
use Rattle.ww_model.specs.State.{State}
use Rattle.ww_model.proofs.Puts.{put_else}
use Rattle.ww_model.proofs.Kept.{reached_is_lawful}
use Rattle.ww_invariant.specs.declared.cells.Start.{Start}
use Rattle.ww_laws.specs.Scene.{asleep, Scene, Step, finds_no_sign, next, IsReached, goes_on}
use Rattle.ww_laws.specs.Sleepers.{WakesArrive, HasToWait}
use Rattle.ww_laws.proofs.Endless.{nobody_sleeps_in_vain, sleep_for_ever_is_a_wait}
use Rattle.ww_refines.specs.Moment.{Moment, core, view}
use Rattle.ww_refines.specs.Moves.{Follows}
use Rattle.ww_refines.specs.Runs.{IsPhase, IsSceneOf, ShowsScene, GoesAlong, HasToWaitThere}
use Rattle.ww_refines.specs.Endless.{IsEndless, step_of, RunsAlong, EndlessRunsShowScenes, WakesArriveThere, NobodySleepsInVainInRuns, SleepForEverIsAWaitInRuns}
use Rattle.ww_refines.proofs.Following.{moves_are_steps, others_are_none, is_asleep, wakes_not}
use Rattle.ww_refines.proofs.Wholes.{run_shows, has_to_wait_there}

-- a number that no seat has may find no sign at any time, and that changes nothing that a moment shows
idly : {key : Start} (m m' : Moment key) (w : Scene) → IsSceneOf m w → Follows m m' None →
    GoesAlong m' w (finds_no_sign key.seats)
idly {key = key} m m' w shown follows = let h = others_are_none key m m' w shown follows in
    let c = core m in let same : key.seats ≤ key.seats = omega arith in record {
      may = (
        shown.strangers key.seats same,
        ap (λ (c : State). c.sign key.seats) shown.core
            ∙ dite (ℕ_discrete (c.sign key.seats) 0) (λ is. is)
            (λ isnt. let a = (reached_is_lawful c m.reached).signs.older_signs key.seats (omega arith) in
            let b = (m.strangers key.seats same).stamp in absurd (omega arith)),
      );
      shown = record {
        core = h.core;
        token = h.token;
        heeds = h.heeds;
        phase = h.phase;
        strangers = h.strangers;
        owes = h.owes;
        fresh = λ t low i f. put_else w.found_no_sign key.seats true t (λ is. omega arith) ∙ h.fresh t low i f;
        uncancelled = h.uncancelled;
        even = h.even;
        condemned = h.condemned;
      };
    }

goes_along : {key : Start} (m m' : Moment key) (w : Scene) (x : Option Step) → IsReached w → IsSceneOf m w →
    Follows m m' x →
    GoesAlong m' w (step_of key x)
goes_along m m' w None reached shown follows = idly m m' w shown follows
goes_along {key = key} m m' w (Some x) reached shown follows = moves_are_steps key m m' w x reached shown follows

module _ {key : Start} (moment : ℕ → Moment key) (move : ℕ → Option Step) (endless : IsEndless moment move) where
  along : (i : ℕ) → ShowsScene (moment i)
  along zero = run_shows (moment 0) endless.begins
  along (suc i) = let a = along i in
      let b = goes_along (moment i) (moment (suc i)) a.scene (move i) a.reached a.shown (endless.goes_on i) in record {
        scene = next a.scene (step_of key (move i));
        reached = goes_on a.scene (step_of key (move i)) a.reached b.may;
        shown = b.shown;
      }

  pub runs_along : RunsAlong moment move
  unfolding along
  runs_along = record {
    scene = λ i. (along i).scene;
    run = record {
      begins = (along 0).reached;
      may = λ i. let a = along i in
          (goes_along (moment i) (moment (suc i)) a.scene (move i) a.reached a.shown (endless.goes_on i)).may;
      goes_on = λ i. refl;
    };
    shown = λ i. (along i).shown;
  }

pub endless_runs_show_scenes : EndlessRunsShowScenes
endless_runs_show_scenes key moment move endless = runs_along moment move endless

module _ {key : Start} (moment : ℕ → Moment key) (move : ℕ → Option Step) (a : RunsAlong moment move) where
  -- a seat sleeps in the one as in the other
  pub sleeps_there : (i s : ℕ) → (a.scene i).phase s ≡ asleep → (s < key.seats) × ((moment i).asleep s ≡ true)
  sleeps_there i s sleeps = let low = dite (dec_le key.seats s)
      (λ far. let z = (a.shown i).strangers s far in absurd (cc)) (λ near. lt_of_not-le near) in (
        low,
        (subst (λ p. IsPhase p ((moment i).asleep s) ((moment i).risen s) (view (moment i) s).naps) sleeps
            ((a.shown i).phase s low)).0,
      )

  sleeps_here : (i s : ℕ) → s < key.seats → (moment i).asleep s ≡ true → (a.scene i).phase s ≡ asleep
  sleeps_here i s low sleeps = is_asleep ((a.scene i).phase s) ((moment i).risen s) (view (moment i) s).naps
      (subst (λ b. IsPhase ((a.scene i).phase s) b ((moment i).risen s) (view (moment i) s).naps) sleeps
      ((a.shown i).phase s low))

  wakes_there : (i s : ℕ) → s < key.seats → (a.scene i).phase s ≢ asleep → (moment i).asleep s ≡ false
  wakes_there i s low isnt = wakes_not ((a.scene i).phase s) ((moment i).asleep s) ((moment i).risen s) (view
      (moment i) s).naps isnt
      ((a.shown i).phase s low)

  arrives : WakesArriveThere moment move → WakesArrive a.scene (λ i. step_of key (move i))
  arrives h = record {
    made = λ i s u owed. let b = h.made i s u ((a.shown i).owes s u owed) in (b.0, b.1, ap (step_of key) b.2);
    heard = λ i s token sleeps. let c = sleeps_there i s sleeps in
        let b = h.heard i s c.0 (sym (ap (λ (f : ℕ → Bool). f s) (a.shown i).token)
        ∙ token) c.1 in (b.0, b.1, ap (step_of key) b.2);
  }

  has_to_wait : (i s : ℕ) → HasToWait (a.scene i) s → HasToWaitThere (moment i) s
  has_to_wait i s waits = has_to_wait_there (moment i) (a.scene i) s (a.shown i) waits

pub nobody_sleeps_in_vain_in_runs : NobodySleepsInVainInRuns
nobody_sleeps_in_vain_in_runs key moment move endless arrive i s low sleeps vain = let a =
    runs_along moment move endless in
    let b = nobody_sleeps_in_vain a.scene (λ i. step_of key (move i)) a.run (arrives moment move a arrive) i s
    (sleeps_here moment move a i s low sleeps) (λ waits. vain (has_to_wait moment move a i s waits)) in
    (b.0, b.1, wakes_there moment move a b.0 s low b.2)

pub sleep_for_ever_is_a_wait_in_runs : SleepForEverIsAWaitInRuns
sleep_for_ever_is_a_wait_in_runs key moment move endless arrive i s low for_ever j later = let a =
    runs_along moment move endless in
    let b = sleep_for_ever_is_a_wait a.scene (λ i. step_of key (move i)) a.run (arrives moment move a arrive) i s
    (λ k late. sleeps_here moment move a k s low (for_ever k late)) in
    has_to_wait moment move a j s (b.1 j later).0
