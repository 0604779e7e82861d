-- Whole runs.
use Rattle.std.proofs.Common.{⊎_elim, inl, inr, ℕ, Bool, false, true≢false, Option, Some, None, refl, sym, ap, ◌∙◌, subst, arith}
use Rattle.ww_model.specs.State.{State}
use Rattle.ww_invariant.specs.declared.cells.Part.{Part}
use Rattle.ww_invariant.specs.declared.cells.Start.{Start}
use Rattle.ww_laws.specs.Scene.{acting, Scene, Step, first_scene, next, begins, goes_on}
use Rattle.ww_laws.specs.Sleepers.{HasToWait}
use Rattle.ww_laws.proofs.Keeping.{no_wake_is_lost}
use Rattle.ww_refines.specs.Moment.{Moment, view}
use Rattle.ww_refines.specs.Moves.{Follows}
use Rattle.ww_refines.specs.Runs as runs
use Rattle.ww_refines.specs.Runs.{IsPhase, IsSceneOf, ShowsScene, IsOfRun, StartIsStart, RunsShowScenes, HasToWaitThere, NoWakeIsLostInRuns, GuardsAreHeldAwakeInRuns}
use Rattle.ww_refines.proofs.Following.{moves_are_steps, others_are_none, is_asleep, wakes_not, inside_acts}

pub start_is_start : StartIsStart
start_is_start key m first = record {
  core = sym first.core;
  token = sym first.token;
  heeds = sym first.heeds;
  phase = λ t low. (
    ap (λ (f : ℕ → Bool). f t) first.asleep,
    ap (λ (f : ℕ → ℕ). f t) first.risen ∙ ap (λ (p : Part). p.core.naps) (sym (first.parts t low)),
  );
  strangers = λ t far. refl;
  owes = λ s u owed. absurd (true≢false (sym owed));
  fresh = λ t low inside. absurd (inside (ap (λ (p : Part). p.core.inside) (first.parts t low)));
  uncancelled = λ t low inside. absurd (inside (ap (λ (p : Part). p.core.inside) (first.parts t low)));
  even = λ s u low. let a = ap (λ (f : ℕ → ℕ → ℕ). f s u) first.rung in omega arith;
  condemned = λ s u low inside. absurd (inside (ap (λ (p : Part). p.core.inside) (first.parts s low)));
}

-- the next moment shows the scene after the step, or the same
shows_on : {key : Start} (m m' : Moment key) (x : Option Step) → ShowsScene m → Follows m m' x → ShowsScene m'
shows_on {key = key} m m' None a follows = record {
  scene = a.scene;
  reached = a.reached;
  shown = others_are_none key m m' a.scene a.shown follows;
}
shows_on {key = key} m m' (Some x) a follows = let b = moves_are_steps key m m' a.scene x a.reached a.shown follows in
    record {
      scene = next a.scene x;
      reached = goes_on a.scene x a.reached b.may;
      shown = b.shown;
    }

pub run_shows : {key : Start} (m : Moment key) → IsOfRun m → ShowsScene m
run_shows {key = key} _ (runs.begins n first) = record {
  scene = first_scene key.kind key.locks key.places;
  reached = begins key.kind key.locks key.places;
  shown = start_is_start key n first;
}
run_shows _ (runs.goes_on n o x run follows) = shows_on n o x (run_shows n run) follows

pub runs_show_scenes : RunsShowScenes
runs_show_scenes key m run = run_shows m run

-- the seat has to wait by the moment, where it has to in a scene that the moment shows
pub has_to_wait_there : {key : Start} (m : Moment key) (w : Scene) (s : ℕ) → IsSceneOf m w → HasToWait w s → HasToWaitThere m s
has_to_wait_there m w s shown h = let by : State × (ℕ → Bool) → Type 0 = λ x. HasToWait (record {
  core = x.0;
  phase = λ _. acting;
  token = λ _. false;
  owes = λ _ _. false;
  found_no_sign = λ _. false;
  found_no_cancel = λ _. false;
  heeds = x.1;
}) s in subst by (λ i. (shown.core i, shown.heeds i)) (record {
  lock = h.lock;
  stands = h.stands;
  outside = h.outside;
  not_due = h.not_due;
  unsigned = h.unsigned;
  not_condemned = h.not_condemned;
  needs_not_die = h.needs_not_die;
  uncancelled = h.uncancelled;
})

pub no_wake_is_lost_in_runs : NoWakeIsLostInRuns
no_wake_is_lost_in_runs key m run s low sleeps = let a = run_shows m run in let w = a.scene in let shown = a.shown in
    let asleep = is_asleep (w.phase s) (m.risen s) (view m s).naps
    (subst (λ b. IsPhase (w.phase s) b (m.risen s) (view m s).naps) sleeps (shown.phase s low)) in
    ⊎_elim
    (λ alerted. inl (⊎_elim (λ token. inl (sym (ap (λ (f : ℕ → Bool). f s) shown.token) ∙ token))
    (λ owed. let h = shown.owes owed.0 s owed.1 in inr (
      owed.0,
      h,
      wakes_not (w.phase owed.0) (m.asleep owed.0) (m.risen owed.0) (view m owed.0).naps owed.2
          (shown.phase owed.0 h.waker),
    )) alerted))
    (λ waits. inr (has_to_wait_there m w s shown waits)) (no_wake_is_lost w a.reached s asleep)

pub guards_are_held_awake_in_runs : GuardsAreHeldAwakeInRuns
guards_are_held_awake_in_runs key m run s low inside = let a = run_shows m run in
    let h = subst (λ p. IsPhase p (m.asleep s) (m.risen s) (view m s).naps)
    (inside_acts m a.scene s a.shown low inside a.reached)
    (a.shown.phase s low) in record { seat = low; awake = h.0; risen = h.1 }
