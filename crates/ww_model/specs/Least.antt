-- What a search for rings and condemned seats finds.
use Rattle.std.specs.Prelude.{ℕ, ◌≡◌, List, ◌∷◌, Option, Some, None, IsSome, min}
use Rattle.ww_model.specs.State.{State, dies}
use Rattle.ww_model.specs.Waits.{WaitsAt, IsRing}

-- the ring begins with this seat
pub record IsRingFrom (c : State) (first : ℕ) (ring : List ℕ) : Type 0 where
  pub rest : List ℕ
  pub parts : ring ≡ first ∷ rest
  pub ring_is : IsRing c ring

-- the seat has to die at the lock, where it waits for another
abbrev pub DiesAt : State → ℕ → ℕ → Type 0
DiesAt c s n = ((b : ℕ) × WaitsAt c s b n) × IsSome (dies c s n)

abbrev pub DiesSome : State → ℕ → Type 0
DiesSome c s = (n : ℕ) × DiesAt c s n

-- the lesser of two seats, if there are two
abbrev pub lesser_of : Option ℕ → ℕ → ℕ
lesser_of None seat = seat
lesser_of (Some other) seat = min other seat
