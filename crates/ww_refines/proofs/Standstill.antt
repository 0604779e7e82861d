-- A deadlock is no standstill.
use Rattle.std.proofs.Common.{◌≡◌, ⊎_elim, inl, ℕ, ◌<◌, true≢false, Some, None, refl, sym, ◌∙◌, arith}
use Rattle.ww_invariant.specs.declared.cells.Start.{Start}
use Rattle.ww_laws.specs.Scene.{Step}
use Rattle.ww_refines.specs.Moment.{Moment}
use Rattle.ww_refines.specs.Moves.{Follows}
use Rattle.ww_refines.specs.Runs.{IsOfRun}
use Rattle.ww_refines.specs.Deadlocks.{IsScheduledThere, SleepsUndisturbed, NoStandstillInRuns}
use Rattle.ww_refines.proofs.Playing.{waiter_is_seat}
use Rattle.ww_refines.proofs.Wholes.{guards_are_held_awake_in_runs}
use Rattle.ww_refines.proofs.Unlocking.{no_deadlock_lasts_in_runs}

-- a moment follows itself
pub idles : {key : Start} (m : Moment key) → Follows m m None
idles m = inl (record {
  stays = record { core = refl; parts = λ u low. refl; heeds = refl };
  rung = refl;
  risen = refl;
  token = refl;
  asleep = refl;
})

-- where nothing happens, who sleeps undisturbed is scheduled
scheduled_there : {key : Start} (m : Moment key) → IsOfRun m → (s : ℕ) → s < key.seats → SleepsUndisturbed m s →
    IsScheduledThere (λ _. m) (λ _. None) s
scheduled_there {key = key} m run s low sound = record {
  made = λ i t has. absurd (sound.unowed t has);
  heard = λ i token sleeps. absurd (true≢false (sym token ∙ sound.no_token));
  settled = λ i rests. absurd (true≢false (sym sound.sleeps ∙ rests.is_asleep));
  looks = λ i n waits acts. absurd (true≢false (sym sound.sleeps ∙ acts.awake));
  leaves = λ i n waits inside. absurd (true≢false (sym sound.sleeps
      ∙ (guards_are_held_awake_in_runs key m run s low (λ none. omega arith)).awake));
}

none_other : (x : Step) → None ≡ Some x → ⊥
none_other x is = cc

pub no_standstill_in_runs : NoStandstillInRuns
no_standstill_in_runs key m run seats sound dead =
    let end = no_deadlock_lasts_in_runs key (λ _. m) (λ _. None) (record { begins = run; goes_on = λ i. idles m }) 0 seats
    (λ s one. let h = dead.stuck s one in
    scheduled_there m run s (waiter_is_seat m h.2.0 s h.2.1) (sound s one)) dead in
    ⊎_elim (λ dies. none_other _ dies) (λ leaves. none_other _ leaves) end.2.2.1
