-- The oldest context.
use Rattle.std.specs.Prelude.{ℕ, ◌≡◌, ◌≢◌, ◌<◌, ◌≤◌}
use Rattle.ww_queue.specs.declared.kind.Kind.TheVariants.{WoundWait}
use Rattle.ww_model.specs.declared.event.Event.{Event}
use Rattle.ww_model.specs.declared.event.Event.TheVariants.{FastGive, Join, Sign, Give, Die, End, Leave}
use Rattle.ww_model.specs.State.{State, Owns}
use Rattle.ww_model.specs.Event.{Possible, after}
use Rattle.ww_model.specs.Emptied.{WindsUp, LeadsBy}

-- the seat has a context, and no other context is older
pub record IsOldest (c : State) (s : ℕ) : Type 0 where
  pub context : 0 < c.stamp s
  pub oldest : (t : ℕ) → 0 < c.stamp t → c.stamp s ≤ c.stamp t

-- In Wound-Wait a context that has ended may have left its sign behind; the seat has none.
pub record IsOldestUnsigned (c : State) (s : ℕ) : Type 0 where
  pub oldest : IsOldest c s
  pub unsigned : c.kind ≡ WoundWait → c.sign s ≡ 0

-- the seat has the oldest context, the same as in the state before, and can neither die nor be signed
pub record GoesOn (before c : State) (s : ℕ) : Type 0 where
  pub same : c.stamp s ≡ before.stamp s
  pub oldest : IsOldestUnsigned c s
  pub never_dies : (n : ℕ) → ¬ Possible c (Die s n)
  pub never_signed : (u : ℕ) → ¬ Possible c (Sign u s)

-- in the event the seat neither dies nor is interrupted nor releases anything that it has
abbrev pub Spares : ℕ → Event → Type 0
Spares s (FastGive u n) = u ≢ s
Spares s (Give u n) = u ≢ s
Spares s (Die u n) = u ≢ s
Spares s (Leave u n) = u ≢ s
Spares s (End u) = u ≢ s
Spares s _ = Unit {0}

-- the others wind up, and so does the seat, but without dying or releasing anything
abbrev pub WindsUpSparing : ℕ → State → Event → Type 0
WindsUpSparing s c e = WindsUp c e × Spares s e

-- a run in which the seat is spared leads to it owning the lock
abbrev pub ComesToOwn : State → ℕ → ℕ → Type 0
ComesToOwn c s n = LeadsBy (WindsUpSparing s) c (λ d. Owns d s n)

-- such a run leads to where the seat can join the wait list, and from there, once it has, one to it owning the lock
abbrev pub JoinsAndComesToOwn : State → ℕ → ℕ → Type 0
JoinsAndComesToOwn c s n = LeadsBy (WindsUpSparing s) c
    (λ d. Possible d (Join s n) × ComesToOwn (after d (Join s n)) s n)
