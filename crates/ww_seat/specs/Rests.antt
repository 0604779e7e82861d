-- How a call stays away from a lock that it has just tried in vain.
use Rattle.std.specs.Prelude.{ℕ, Some, None, ◌≡◌, ◌≢◌, ◌<◌, ◌≤◌, ◌+◌, ◌*◌, ◌⊎◌, nat_eq, if◌then◌else◌}
use Rattle.ww_word.specs.declared.owner.Owner.{Owner}
use Rattle.ww_seat.specs.declared.resting.Rest.{Rest}
use Rattle.ww_seat.specs.declared.resting.Seen.{Seen}
use Rattle.ww_seat.specs.declared.resting.Seen.TheVariants.{Nothing, Once, Enough}
use Rattle.ww_seat.specs.declared.resting.Stay.{Stay}

-- by what was seen before, a free lock ends a stay: it doesn't where the second spin read of it sees that, since the owner
-- before was quick
abbrev pub EndsAfter : Seen → Type 0
EndsAfter Nothing = Unit {0}
EndsAfter (Once owner) = ⊥
EndsAfter (Enough plan) = Unit {0}

-- a free lock ends this stay; the last spin read ends any
abbrev pub EndsIfFree : Stay → Type 0
EndsIfFree stay = (stay.glances ≡ 1) ⊎ EndsAfter stay.seen

-- so many contexts have begun since the first that it saw, whose stamp `first` is, and 0 if it has seen none
pub record IsLate (first : ℕ) (owner : Owner) : Type 0 where
  pub owned : owner.seat ≢ None
  pub seen : 0 < first
  pub begun : first + 4096 ≤ owner.stamp

-- that stamp, once it has seen this owner too
abbrev pub first_with : ℕ → Owner → ℕ
first_with first owner = elim owner.seat [ None ↦ first | Some _ ↦ if nat_eq first 0 then owner.stamp else first ]

-- what a rest leaves of a stay: fewer spin reads, but one at least; the pauses without those of the rest. It lets other
-- threads run behind each 64 pauses at most.
pub record Rests (stay left : Stay) (rest : Rest) : Type 0 where
  pub fewer : left.glances < stay.glances
  pub one : 1 ≤ left.glances
  pub pauses : left.pauses + rest.pauses ≡ stay.pauses
  pub yields : 64 * rest.yields ≤ rest.pauses
