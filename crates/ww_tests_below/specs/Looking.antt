-- A seat in a ring: what it holds, and where it stands.
use Rattle.std.specs.Prelude.{ℕ, suc, ◌≡◌, ◌<◌, ◌⊎◌, Bool, List, false, replicate, slice_set, true}
use Rattle.ww_view.specs.View.{IsAway}
use Rattle.ww_table.specs.declared.board.Board.{Board}
use Rattle.ww_table.specs.declared.seat.Stepper.{Stepper}
use Rattle.ww_table.specs.Seat.{IsNew, locks_of, size_of}
use Rattle.ww_seat.specs.declared.look.Arrival.{Arrival}
use Rattle.ww_seat.specs.Looks.{MayWant}
use Rattle.ww_seat.specs.Standings.{Standing, view_in, OwnsNodes, IsAt}
use Rattle.ww_seat.specs.Work.{ComesOutside}

-- a board of two nodes and 64 locks, with room for 16 seats
pub record IsSmall (board : Board) : Type 0 where
  pub two : size_of board ≡ 2
  pub locks : locks_of board ≡ 64
  pub few : board.table.shared.key.places ≡ 16

-- seat k of this board, which did nothing yet
abbrev pub IsUnused : Board → ℕ → Stepper → Type 0
IsUnused board k s = IsNew board.table.shared.table_id board.table.shared.key k s

-- which locks a seat owns: none, or just this one
abbrev pub none : List Bool
none = replicate 64 false

abbrev pub just : ℕ → List Bool
just n = slice_set none n true

-- those that it owns
abbrev pub owned_in : Standing → List Bool
owned_in s = (view_in s).owned

-- a seat of this board, which is small, owns just these locks in a context, and waits for no lock
pub record OwnsOnly (board : Board) (locks : List Bool) (s : Standing) : Type 0 where
  pub small : IsSmall board
  pub at : IsAt board s
  pub context : 0 < (view_in s).stamp
  pub owned : owned_in s ≡ locks
  pub away : IsAway (view_in s)

-- ... or may look at lock n: each lock that it owns guards a node, and it stands in the wait list of lock n, or in none
pub record MayLook (board : Board) (locks : List Bool) (n : ℕ) (arrival : Arrival) (s : Standing) : Type 0 where
  pub small : IsSmall board
  pub at : IsAt board s
  pub context : 0 < (view_in s).stamp
  pub owned : owned_in s ≡ locks
  pub nodes : OwnsNodes s
  pub there : n < 2
  pub want : MayWant n (view_in s)
  pub outside : (view_in s).inside ≡ 0
  pub place : ((view_in s).waits ≡ 0) ⊎ ((view_in s).waits ≡ suc n)
  pub comes : ComesOutside arrival (view_in s)
