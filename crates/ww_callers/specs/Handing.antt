-- A lock passes from one desk to another: what the caller of the one did while it had the lock comes before what that of the
-- other does.
use Rattle.std.specs.Prelude.{ℕ, ◌≡◌, ◌≢◌, ◌<◌, ◌≤◌, ◌⊎◌, true, false, Some}
use Rattle.ww_plain.specs.Numbers.{is_among}
use Rattle.ww_model.specs.declared.event.Event.TheVariants.{Fast, FastGive, Take, Give}
use Rattle.ww_view.specs.View.{owns}
use Rattle.ww_invariant.specs.declared.cells.Start.{Start}
use Rattle.ww_laws.specs.Scene.{performs}
use Rattle.ww_steps.specs.Situations.{Situation}
use Rattle.ww_callers.specs.Stages.{Stage, IsDesk}
use Rattle.ww_callers.specs.Deeds.{Deed, steps, Accounts}
use Rattle.ww_callers.specs.Drives.{IsEndlessDriveBy}

-- what a desk holds is what its seat knows that it owns
abbrev pub DesksHoldWhatTheyOwn : Type 0
DesksHoldWhatTheyOwn = (s : Situation) → IsDesk s → (n : ℕ) → owns s.view n ≡ is_among n s.held

-- no call of the desk is on its way, and its seat owns the lock
pub record HasInHand {key : Start} (g : Stage key) (d n : ℕ) : Type 0 where
  pub seat : d < key.seats
  pub idle : g.calling d ≡ false
  pub owns : owns (g.desk d).view n ≡ true

-- the desk releases the lock by this deed: one compare-exchange on the lock's owner word
abbrev pub DeskReleases : ℕ → ℕ → Deed → Type 0
DeskReleases d n x = (x ≡ steps d (Some (performs (FastGive d n)))) ⊎ (x ≡ steps d (Some (performs (Give d n))))

-- it takes the lock, by such an operation too
abbrev pub DeskAcquires : ℕ → ℕ → Deed → Type 0
DeskAcquires d n x = (x ≡ steps d (Some (performs (Fast d n)))) ⊎ (x ≡ steps d (Some (performs (Take d n))))

-- Desk d made a step that released the lock, and after that desk e made one that took it.
pub record PassesOnByDesks (deed : ℕ → Deed) (n d e i j : ℕ) : Type 0 where
  pub released : ℕ
  pub taken : ℕ
  pub from : i ≤ released
  pub order : released < taken
  pub before : taken < j
  pub gives : DeskReleases d n (deed released)
  pub takes : DeskAcquires e n (deed taken)

-- Whenever one desk has a lock, between two calls, and later another has it.
abbrev pub OwnersHandOverInDrives : Type 0
OwnersHandOverInDrives = (key : Start) (stage : ℕ → Stage key) (deed : ℕ → Deed) → IsEndlessDriveBy Accounts stage deed → (i j d e n : ℕ) →
    i ≤ j → HasInHand (stage i) d n → HasInHand (stage j) e n → d ≢ e → PassesOnByDesks deed n d e i j
