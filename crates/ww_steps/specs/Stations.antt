-- What is true of a desk, whatever was called before.
use Rattle.std.specs.Prelude.{ℕ, ◌≡◌, ◌<◌, ◌≤◌, ◌+◌, ◌/◌, ◌^◌, Bool, false, List, length}
use Rattle.std.specs.Arc.{arc_value}
use Rattle.std.specs.List.{slice_index_or}
use Rattle.ww_plain.specs.Numbers.{is_among, AreDifferent}
use Rattle.ww_view.specs.View.{IsAway}
use Rattle.ww_table.specs.declared.board.Board.{Board}
use Rattle.ww_table.specs.Seat.{locks_of, size_of}
use Rattle.ww_seat.specs.Standings.{Standing, view_in, IsAt, MayGoIn, MayRelease}
use Rattle.ww_seat.specs.Work.{AreWoken, HasBooked, has_joined, looks_again, ComesOutside, IsWorking}
use Rattle.ww_steps.specs.declared.turn.Turn.{Turn}
use Rattle.ww_steps.specs.declared.turn.Turn.TheVariants.{Rests, Wants, Looks, Gives}
use Rattle.ww_steps.specs.declared.station.Station.{Station}
use Rattle.ww_steps.specs.Situations.{Situation}

-- what a contract sees of it
abbrev pub situation_of : Station → Situation
situation_of d = record {
  home = d.seat.home;
  size = d.locks;
  seats = d.seats;
  kind = (view_in d.seat).kind;
  caller = (view_in d.seat).who;
  left = d.left;
  draws = d.seat.me.0.part.counts.draws;
  stamp = (view_in d.seat).stamp;
  is_done = d.is_done;
  held = (view_in d.seat).locks;
  told = d.told;
  turn = d.turn;
  wakes = d.wake.items;
  tries = (view_in d.seat).tries;
  takes = (view_in d.seat).takes;
  deaths = (view_in d.seat).deaths;
  cancelled = d.seat.me.0.part.counts.cancelled;
  pendings = (view_in d.seat).pendings;
  interrupted = (view_in d.seat).stopped;
  view = view_in d.seat;
}

-- Where the seat is at each step of a call, and whom it has to wake then: inside a guard its debts are those from before and
-- whom it condemned there.
abbrev pub IsWhere : Board → List ℕ → Turn → Standing → Type 0
IsWhere b wakes Rests s = IsAway (view_in s)
IsWhere b wakes (Wants n arrival waits) s = MayGoIn b n s × ComesOutside arrival (view_in s)
IsWhere b wakes (Looks n arrival waits) s = (n < locks_of b)
    × IsWorking n (has_joined arrival) (looks_again arrival) (view_in s)
    × AreWoken (view_in s) wakes × ((before : List ℕ) × HasBooked before (view_in s))
IsWhere b wakes (Gives n) s = MayRelease b n s

-- it owns just the locks that are held, as many as are counted, of so many that there are
pub record OwnsJust (count locks : ℕ) (held : List ℕ) (owned : List Bool) : Type 0 where
  pub counted : count ≡ length held
  pub differ : AreDifferent held
  pub same : (n : ℕ) → slice_index_or owned n false ≡ is_among n held
  pub room : length owned ≡ locks

-- a world of so many locks, none of which guards a node, at a table that packs their words, and so many seats, for which
-- there are so many words of marks
pub record IsWorld (b : Board) (locks seats words : ℕ) : Type 0 where
  pub bare : size_of b ≡ 0
  pub locks_are : locks ≡ locks_of b
  pub packed : 64 < locks_of b
  pub most : locks_of b ≤ 16777216
  pub seats_are : seats ≤ b.table.shared.key.places
  pub few : seats ≤ 16 → b.table.shared.key.places ≡ 16
  pub many : b.table.shared.key.places < 4096
  pub words_are : words ≡ (b.table.shared.key.places + 63) / 64

-- The seat is where `turn` says, and owns just the locks that are held. With what is left it stays within what the table
-- counts.
pub record Keeps (d : Station) : Type 0 where
  pub at : IsAt (arc_value d.board) d.seat
  pub stands : IsWhere (arc_value d.board) d.wake.items d.turn d.seat
  pub world : IsWorld (arc_value d.board) d.locks d.seats (length d.wake.items)
  pub owns : OwnsJust d.count (locks_of (arc_value d.board)) (view_in d.seat).locks (view_in d.seat).owned
  pub draws : d.seat.me.0.part.counts.draws + d.left < 2 ^ 52
