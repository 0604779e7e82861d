-- A seat as its caller has it.
use Rattle.std.specs.Prelude.{ℕ, nat_lt, ◌≡◌, ◌<◌, ◌^◌, ◌==◌, [], Bool, true, false, length, Some, IsSome, if◌then◌else◌}
use Rattle.std.specs.List.{AllByRecursion}
use Rattle.atomic_table.specs.Seated.{TableId}
use Rattle.ww_word.specs.AnySeats.{Fits, packed, most_for, unflagged}
use Rattle.ww_invariant.specs.Layout.{IsSized, sign_at}
use Rattle.ww_view.specs.declared.view.View.{View}
use Rattle.ww_view.specs.View.{owns}
use Rattle.ww_view.specs.Made.{fast_given, fast_missed, fast_taken}
use Rattle.ww_invariant.specs.declared.cells.Start.{Start}
use Rattle.ww_invariant.specs.Rule.{first_graph, first_part, IsSize, Sat}
use Rattle.ww_invariant.specs.Steps.{sight_of, knowing, keeping}
use Rattle.ww_invariant.specs.Out.{numbers_of}
use Rattle.ww_table.specs.declared.board.Board.{Board}
use Rattle.ww_table.specs.declared.seat.Stepper.{Stepper}
use Rattle.ww_table.specs.declared.seat.Taking.{Taking}
use Rattle.ww_table.specs.declared.seat.Taking.TheVariants.{Took, Had, Missed}
use Rattle.ww_table.specs.declared.seat.Giving.{Giving}
use Rattle.ww_table.specs.declared.seat.Giving.TheVariants.{Gave, Kept, Lacked}
use Rattle.ww_table.specs.declared.seat.Found.{Found}
use Rattle.ww_table.specs.declared.seat.Tried.{Tried}
use Rattle.ww_table.specs.declared.seat.Tried.TheVariants.{Did, InVain}

-- what it knows of the table and of itself
abbrev pub view_of : Stepper → View
view_of s = s.seat.me.0.part.core

-- the word of a lock that a seat has taken, without its stamp; and how much it grows with that
abbrev pub base_of : ℕ → ℕ
base_of who = packed (record { seat = Some who; stamp = 0; flags = 0 })

abbrev pub stamp_step : ℕ → ℕ
stamp_step who = if nat_lt who 16 then 256 else 32768

-- the seat is one of this table, and what it keeps beside its view is what the view says
pub record IsSeated (table : TableId) (s : Stepper) : Type 0 where
  pub home : s.seat.table_id ≡ table
  pub seated : s.seat.me.0.seated ≡ true
  pub kind : s.kind ≡ (view_of s).kind
  pub who : (view_of s).who ≡ s.who
  pub few : s.who < s.seats
  pub room : (view_of s).room ≡ s.room
  pub seats : (view_of s).seats ≡ s.seats
  pub size : IsSize s.seats
  pub most : s.most ≡ most_for s.seats
  pub sign : s.sign ≡ sign_at s.room s.who
  pub sized : IsSized s.room s.seats table
  pub stamp : (view_of s).stamp ≡ s.stamp
  pub fits : Fits s.who s.stamp
  pub base : s.base ≡ base_of s.who
  pub step : s.step ≡ stamp_step s.who
  pub own : s.own ≡ packed (record { seat = Some s.who; stamp = s.stamp; flags = 0 })
  pub order : s.order.items ≡ numbers_of s.seat.me.1
  pub records : s.records.items ≡ s.seat.me.0.part.own
  pub alone : s.seat.me.0.idle ≡ []
  pub places : AllByRecursion (λ p. p.0 < 2 ^ 44) s.records.items
  -- a seat that stands in no list has its page
  pub page : (view_of s).waits ≡ 0 → IsSome s.page

-- how many nodes a board has
abbrev pub size_of : Board → ℕ
size_of board = length (first_graph board.table.shared.key)

-- how many locks a board has
abbrev pub locks_of : Board → ℕ
locks_of board = board.table.shared.key.locks

-- the seat is one of this board
abbrev pub IsSeatOf : Board → Stepper → Type 0
IsSeatOf board s = IsSeated board.table.shared.table_id s

-- the seat k of a table that was made just now
pub record IsNew (table : TableId) (key : Start) (k : ℕ) (s : Stepper) : Type 0 where
  pub seated : IsSeated table s
  pub number : s.who ≡ k
  pub me : s.seat.me ≡ (sight_of (length (first_graph key)) (first_part key.kind key.locks key.places k), [])

-- ---- one try at a lock that guards no node

-- the word that was found is the seat's own except its flags
abbrev pub tells_own : Found → Bool
tells_own found = unflagged found.word == unflagged found.own

abbrev pub taking_of : Tried → Taking
taking_of Did = Took
taking_of (InVain found) = if tells_own found then Had else Missed

abbrev pub giving_of : Tried → Giving
giving_of Did = Gave
giving_of (InVain found) = if tells_own found then Kept else Lacked

-- It has the lock now; or it had it before, and nothing has changed; or it has only tried.
abbrev pub HasTriedToTake : Sat → ℕ → Taking → Sat → Type 0
HasTriedToTake m n Took m' = (owns m.0.part.core n ≡ false) × (m' ≡ (knowing m.0 (fast_taken m.0.part.core n), m.1))
HasTriedToTake m n Had m' = (owns m.0.part.core n ≡ true) × (m' ≡ m)
HasTriedToTake m n Missed m' = (owns m.0.part.core n ≡ false) × (m' ≡ (knowing m.0 (fast_missed m.0.part.core), m.1))

-- It has the lock no more; or somebody may wait for it, so it is kept; or it didn't have it, and nothing has changed.
abbrev pub HasTriedToGive : Sat → ℕ → Giving → Sat → Type 0
HasTriedToGive m n Gave m' = (owns m.0.part.core n ≡ true) × (m' ≡ (knowing m.0 (fast_given m.0.part.core n), m.1))
HasTriedToGive m n Kept m' = (owns m.0.part.core n ≡ true) × (m' ≡ (keeping m.0, m.1))
HasTriedToGive m n Lacked m' = (owns m.0.part.core n ≡ false) × (m' ≡ m)
