-- In each kind a run that comes to a sleeper, and goes on to where it is to be woken.
use Rattle.std.proofs.Common.{◌≡◌, inl, inr, ⊎_elim, true, false, ℕ, Bool, List, [], ◌∷◌, refl, sym, true≢false}
use native.Mathlib.Decide.{ℕ_discrete}
use Rattle.ww_queue.specs.declared.kind.Kind.{Kind}
use Rattle.ww_queue.specs.declared.kind.Kind.TheVariants.{WoundWait, WaitDie}
use Rattle.ww_model.specs.declared.event.Event.{Event}
use Rattle.ww_model.specs.declared.event.Event.TheVariants.{Begin, Fast, Guard, Join, Give, Unguard}
use Rattle.ww_model.specs.State.{start, put}
use Rattle.ww_model.specs.Event.{Possible, actor}
use Rattle.ww_model.specs.Run.{IsRun, at_start}
use Rattle.ww_laws.proofs.Tests.{all_pass, a_run}
use Rattle.ww_laws.specs.Scene.{acting, Scene, first_scene, performs, leaves_to_sleep, finds_no_sign, finds_no_cancel, falls_asleep, MayLeaveToSleep, next, IsReached, begins, goes_on}
use Rattle.ww_laws.specs.Sleepers.{IsDue, IsAlerted, HasSleeper, HasOwedSleeper, SleepersAreReached}
use Rattle.ww_laws.proofs.Keeping.{no_wake_is_lost}

-- a reached scene from which these events are a run
pub record Goes (w : Scene) (es : List Event) : Type 0 where
  pub reached : IsReached w
  run : IsRun w.core es

go_on : {w : Scene} {e : Event} {es : List Event} → Goes w (e ∷ es) → w.phase (actor e) ≡ acting →
    Goes (next w (performs e)) es
go_on {w} {e} {es} g acts = record {
  reached = goes_on w (performs e) g.reached (record { acts = acts; possible = g.run.0 });
  run = g.run.1;
}

leave : {w : Scene} {s n : ℕ} {es : List Event} (heeds : Bool) → Goes w (Unguard s n ∷ es) →
    (Possible w.core (Unguard s n) → MayLeaveToSleep w s n heeds) → Goes (next w (leaves_to_sleep s n heeds)) es
leave {w} {s} {n} {es} heeds g may =
    record { reached = goes_on w (leaves_to_sleep s n heeds) g.reached (may g.run.0); run = g.run.1 }

-- the first takes the lock, and the second waits for it, until the first releases it
abbrev events : List Event
events = Begin 0 ∷ Begin 1 ∷ Fast 0 0 ∷ Guard 1 0 ∷ Join 1 0 ∷ Unguard 1 0 ∷ Guard 0 0 ∷ Give 0 0 ∷ []

possible : (kind : Kind) → all_pass (start kind 1 2) events ≡ true
unfolding put ℕ_discrete
possible WoundWait = refl
possible WaitDie = refl

abbrev begun : Kind → Scene
begun kind = next (next (first_scene kind 1 2) (performs (Begin 0))) (performs (Begin 1))

abbrev joined : Kind → Scene
joined kind = next (next (next (begun kind) (performs (Fast 0 0))) (performs (Guard 1 0))) (performs (Join 1 0))

abbrev looked : Kind → Scene
looked kind = next (next (joined kind) (finds_no_cancel 1)) (finds_no_sign 1)

abbrev left : Kind → Scene
left kind = next (looked kind) (leaves_to_sleep 1 0 true)

abbrev pub sleeping : Kind → Scene
sleeping kind = next (left kind) (falls_asleep 1)

abbrev pub given : Kind → Scene
given kind = next (next (sleeping kind) (performs (Guard 0 0))) (performs (Give 0 0))

from_start : (kind : Kind) → Goes (first_scene kind 1 2) events
from_start kind = record { reached = begins kind 1 2; run = a_run (start kind 1 2) (at_start kind 1 2) events (possible kind) }

from_looked : (kind : Kind) → Goes (looked kind) (Unguard 1 0 ∷ Guard 0 0 ∷ Give 0 0 ∷ [])
from_looked kind = let g : Goes (joined kind) (Unguard 1 0 ∷ Guard 0 0 ∷ Give 0 0 ∷ []) =
    go_on (go_on (go_on (go_on (go_on (from_start kind) refl) refl) refl) refl) refl in record {
      reached = goes_on (next (joined kind) (finds_no_cancel 1)) (finds_no_sign 1)
          (goes_on (joined kind) (finds_no_cancel 1) g.reached (refl, refl)) (refl, refl);
      run = g.run;
    }

from_left : (kind : Kind) → Goes (left kind) (Guard 0 0 ∷ Give 0 0 ∷ [])
unfolding put ℕ_discrete
from_left kind = leave true (from_looked kind) (λ can. record {
  acts = refl;
  possible = can;
  waits = (record { seat = 1; stamp = 2; holds = false }, inl refl, refl);
  unsigned = λ _. refl;
  uncancelled = λ _. refl;
})

pub from_sleeping : (kind : Kind) → Goes (sleeping kind) (Guard 0 0 ∷ Give 0 0 ∷ [])
unfolding put ℕ_discrete
from_sleeping kind = let g = from_left kind in
    record { reached = goes_on (left kind) (falls_asleep 1) g.reached (record { ready = refl; paid = λ _. refl }); run = g.run }

pub from_given : (kind : Kind) → Goes (given kind) []
unfolding put ℕ_discrete
from_given kind = go_on (go_on (from_sleeping kind) refl) refl

has_sleeper : (kind : Kind) → HasSleeper (sleeping kind)
unfolding put ℕ_discrete
has_sleeper kind = let lonely : ¬ IsAlerted (sleeping kind) 1 = ⊎_elim (λ h. true≢false (sym h)) (λ h. true≢false (sym h.1)) in
    record {
      seat = 1;
      sleeps = refl;
      heeds = refl;
      not_alerted = lonely;
      has_to_wait = ⊎_elim (λ alert. absurd (lonely alert)) (λ waits. waits)
          (no_wake_is_lost (sleeping kind) (from_sleeping kind).reached 1 refl);
    }

pub due : (kind : Kind) → IsDue (given kind).core 1 0
unfolding put ℕ_discrete
due kind = inr (refl, (record { seat = 1; stamp = 2; holds = false }, [], refl, refl))

has_owed : (kind : Kind) → HasOwedSleeper (given kind)
unfolding put ℕ_discrete
has_owed kind = record {
  seat = 1;
  lock = 0;
  sleeps = refl;
  no_token = refl;
  due = due kind;
}

pub sleepers_are_reached : SleepersAreReached
sleepers_are_reached kind = (
  record { scene = sleeping kind; of_kind = refl; reached = (from_sleeping kind).reached; holds = has_sleeper kind },
  record { scene = given kind; of_kind = refl; reached = (from_given kind).reached; holds = has_owed kind },
)
