-- What a bank's threads record.
use Rattle.std.specs.Prelude.{ℕ, List}
use Rattle.ww_plain.specs.History.{Recorded}
use Rattle.ww_plain.specs.Totals.{is_move}
use Rattle.ww_txn.specs.Crew.{OwnMeet}

-- each record of the log is a `Move`
abbrev pub OwnMoves : List (ℕ × Recorded) → Type 0
OwnMoves own = OwnMeet (λ r. is_move r.transaction) own
