-- Seats that come together again to be closed.
use Rattle.std.specs.Prelude.{ℕ, ◌≡◌, ◌<◌, List, length}
use Rattle.std.specs.List.{AllByRecursion}
use Rattle.ww_queue.specs.Queue.{Has}
use Rattle.ww_table.specs.declared.board.Board.{Board}
use Rattle.ww_table.specs.declared.seat.Stepper.{Stepper}
use Rattle.ww_table.specs.Closed.{HasCome}

-- they hold nothing, and each number below how many they are is one's
pub record HaveCome (board : Board) (seats : List Stepper) : Type 0 where
  pub each : AllByRecursion (HasCome board.table.shared.table_id) seats
  pub all : (k : ℕ) → k < length seats → (s : Stepper) × Has seats s × (s.who ≡ k)
