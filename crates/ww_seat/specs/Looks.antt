-- A seat that wants a lock, on its way there.
use Rattle.std.specs.Prelude.{ℕ, suc, ◌≡◌, ◌<◌, ◌≤◌, ◌+◌, ◌⊎◌, true, false}
use Rattle.ww_view.specs.declared.view.View.{View}
use Rattle.ww_view.specs.View.{owns, IsAway}
use Rattle.ww_view.specs.May.{WantsBase, WantsSigns}
use Rattle.ww_invariant.specs.Rule.{Sat}
use Rattle.ww_invariant.specs.Steps.{knowing}
use Rattle.ww_seat.specs.Orderly.{IsOrderly}
use Rattle.ww_seat.specs.Calls.{HoldsAsBefore, HasTaken, HasToDie, HasStopped}
use Rattle.ww_seat.specs.declared.look.Look.{Look}
use Rattle.ww_seat.specs.declared.look.Look.TheVariants as look
use Rattle.ww_seat.specs.declared.waits.Waits.{Waits}
use Rattle.ww_seat.specs.declared.waits.Waits.TheVariants.{UntilCancelled}

-- why the seat may want a lock
pub record MayWant (n : ℕ) (v : View) : Type 0 where
  pub lacks : owns v n ≡ false
  pub base : WantsBase v
  pub signs : WantsSigns v

-- outside the guard: it stands in the wait list of the lock, or in none
pub record IsOutside (size n : ℕ) (m : Sat) : Type 0 where
  pub orderly : IsOrderly size m
  pub want : MayWant n m.0.part.core
  pub outside : m.0.part.core.inside ≡ 0
  pub place : (m.0.part.core.waits ≡ 0) ⊎ (m.0.part.core.waits ≡ suc n)

-- it has made so many more spin reads, and is otherwise as it was
abbrev pub having_glanced : Sat → ℕ → Sat
having_glanced m k = let v : View = m.0.part.core in
    (knowing m.0 (record v { glances = v.glances + k; all_glances = v.all_glances + k }), m.1)

pub record HasGlanced (m m' : Sat) : Type 0 where
  pub times : ℕ
  pub few : times ≤ 16
  pub now : m' ≡ having_glanced m times

-- what a look came to, once the seat is outside again
abbrev pub CameTo : ℕ → Sat → Look → Sat → Type 0
CameTo n m (look.Locked x) m' = IsAway m'.0.part.core × HasTaken m n x m'
CameTo n m (look.Deadlk k) m' = IsAway m'.0.part.core × HasToDie m n k m'
CameTo n m (look.Interrupted by) m' = IsAway m'.0.part.core × HasStopped m n by m'
CameTo n m look.Waits m' = MayWant n m'.0.part.core × (m'.0.part.core.inside ≡ 0) × (m'.0.part.core.waits ≡ suc n)
    × HoldsAsBefore m m'

abbrev pub IsLook : ℕ → ℕ → Sat → Look → Sat → Type 0
IsLook size n m l m' = IsOrderly size m' × CameTo n m l m'

-- it left no guard as a waiter
pub record StaysAwake (v v' : View) : Type 0 where
  pub naps : v'.naps ≡ v.naps
  pub deaf : v'.deaf ≡ v.deaf

-- a look that comes to waiting is one nap more, and not a deaf one if it found no cancel
abbrev pub IsNap : View → Look → View → Type 0
IsNap v look.Waits v' = (v'.naps ≡ v.naps + 1) × (v'.uncancelled ≡ true → v'.deaf ≡ v.deaf)
IsNap v _ v' = StaysAwake v v'

-- only a look of a wait until a cancel comes to an interruption
abbrev pub MayLookSo : ℕ → Waits → Look → Type 0
MayLookSo seats waits (look.Interrupted by) = (waits ≡ UntilCancelled) × (by < seats)
MayLookSo seats waits _ = Unit {0}

-- a look of a wait until a cancel comes to waiting only once it found none
abbrev pub MayWaitSo : Waits → View → Look → Type 0
MayWaitSo waits v look.Waits = waits ≡ UntilCancelled → v.uncancelled ≡ true
MayWaitSo waits v _ = Unit {0}
