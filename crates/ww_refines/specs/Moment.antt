-- Threads and the locks that they share, at one moment.
use Rattle.std.specs.Prelude.{ℕ, ◌≡◌, ◌≢◌, ◌<◌, ◌≤◌, ◌+◌, Bool, false}
use Rattle.ww_model.specs.State.{State, start}
use Rattle.ww_model.specs.Run.{Reached}
use Rattle.ww_view.specs.declared.view.View.{View}
use Rattle.ww_view.specs.View.{Knows}
use Rattle.ww_invariant.specs.declared.cells.Part.{Part}
use Rattle.ww_invariant.specs.declared.cells.Start.{Start}
use Rattle.ww_invariant.specs.Rule.{IsStranger, first_part, wakes_owed}

-- this part is that of seat t, which knows the locks by it
pub record IsPartOf (c : State) (t : ℕ) (p : Part) : Type 0 where
  pub who : p.core.who ≡ t
  pub knows : Knows c p.core

-- The locks, in a state to which events lead, and in which a number that no seat has does nothing; and what is known of each
-- seat. Beside it: for how many of the wakes that a seat owed each other one it gave tokens; how often a seat rose from its
-- sleep; whether it has a token, which ends its sleep; whether it sleeps; and whether the call in which it last went to sleep
-- heeds cancels.
pub record Moment (key : Start) : Type 0 where
  pub core : State
  pub reached : Reached core
  pub strangers : (t : ℕ) → key.seats ≤ t → IsStranger core t
  pub part : ℕ → Part
  pub told : (t : ℕ) → t < key.seats → IsPartOf core t (part t)
  pub rung : ℕ → ℕ → ℕ
  pub risen : ℕ → ℕ
  pub token : ℕ → Bool
  pub asleep : ℕ → Bool
  pub heeds : ℕ → Bool

module _ {key : Start} (m : Moment key) where
  -- the locks
  abbrev pub core : State
  core = m.core

  -- what seat t knows of them
  abbrev pub view : ℕ → View
  view t = (m.part t).core

  -- seat s has yet to wake seat u, another one
  pub record HasToWake (s u : ℕ) : Type 0 where
    pub waker : s < key.seats
    pub sleeper : u < key.seats
    pub other : u ≢ s
    pub owed : m.rung s u < wakes_owed (m.part s) u

  -- seat t doesn't sleep, and has risen each time that it left a guard as a waiter
  pub record Acts (t : ℕ) : Type 0 where
    pub seat : t < key.seats
    pub awake : m.asleep t ≡ false
    pub risen : m.risen t ≡ (view t).naps

  -- it left a guard as a waiter, and hasn't risen since; it sleeps, or is about to
  pub record HasLeftToWait (t : ℕ) (sleeps : Bool) : Type 0 where
    pub seat : t < key.seats
    pub is_asleep : m.asleep t ≡ sleeps
    pub due : m.risen t + 1 ≡ (view t).naps

  -- nothing was done yet
  pub record IsFirstMoment : Type 0 where
    pub core : m.core ≡ start key.kind key.locks key.places
    pub parts : (t : ℕ) → t < key.seats → m.part t ≡ first_part key.kind key.locks key.places t
    pub rung : m.rung ≡ (λ _ _. 0)
    pub risen : m.risen ≡ (λ _. 0)
    pub token : m.token ≡ (λ _. false)
    pub asleep : m.asleep ≡ (λ _. false)
    pub heeds : m.heeds ≡ (λ _. false)
