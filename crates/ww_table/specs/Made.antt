-- A table that was made just now, and the slots that it is made with.
use Rattle.std.specs.Prelude.{ℕ, ◌≡◌, ◌<◌, ◌≤◌, ◌-◌, List, [], length, Some, IsSome}
use mathlib.Core.Option.{some}
use lib.ListN.{get_elem?}
use Rattle.atomic_table.specs.declared.shared.Seat.{Seat}
use Rattle.atomic_table.specs.Seated.{TableId}
use Rattle.ww_word.specs.AnySeats.{packed, most_for}
use Rattle.ww_queue.specs.declared.kind.Kind.{Kind}
use Rattle.ww_plain.specs.declared.node.Node.{Node}
use Rattle.ww_invariant.specs.declared.cells.Cell.{Cell}
use Rattle.ww_invariant.specs.declared.cells.Sight.{Sight}
use Rattle.ww_invariant.specs.declared.cells.Start.{Start}
use Rattle.ww_table.specs.declared.seat.Stepper.{Stepper}
use Rattle.ww_table.specs.declared.board.Board.{Board}
use Rattle.ww_table.specs.declared.make.Ticket.{Ticket}
use Rattle.ww_invariant.specs.Rule.{first_graph, first_part, first_sight, first_parts, places_for, IsSize}
use Rattle.ww_invariant.specs.Layout.{IsSized, sign_at}
use Rattle.ww_invariant.specs.Steps.{sight_of}
use Rattle.ww_table.specs.Seat.{IsNew, base_of, stamp_step}

-- seat k has the number k, and did nothing yet
pub record AreNew (table : TableId) (key : Start) (count : ℕ) (seats : List Stepper) : Type 0 where
  pub many : length seats ≡ count
  pub new : (k : ℕ) (s : Stepper) → get_elem? seats k ≡ some s → IsNew table key k s

-- a ticket of this table, whose seat did nothing yet
pub record IsTicket (table : TableId) (key : Start) (t : Ticket) : Type 0 where
  pub there : t.who < key.places
  pub size : IsSize key.places
  pub sized : IsSized key.locks key.places table
  pub home : t.seat.table_id ≡ table
  pub me : t.seat.me ≡ (sight_of (length (first_graph key)) (first_part key.kind key.locks key.places t.who), [])

-- ticket k has the number k
pub record AreTickets (table : TableId) (key : Start) (count : ℕ) (tickets : List Ticket) : Type 0 where
  pub many : length tickets ≡ count
  pub each : (k : ℕ) (t : Ticket) → get_elem? tickets k ≡ some t → IsTicket table key t × (t.who ≡ k)

-- the graph, the kind and the number of locks are those given, and there is a ticket for each number
pub record IsLaid (kind : Kind) (graph : List Node) (locks count : ℕ) (board : Board) (tickets : List Ticket) : Type 0 where
  pub kind_is : board.table.shared.key.kind ≡ kind
  pub graph_is : first_graph board.table.shared.key ≡ graph
  pub locks_are : board.table.shared.key.locks ≡ locks
  pub count_is : board.table.shared.key.seats ≡ count
  pub places_are : board.table.shared.key.places ≡ places_for count
  pub tickets_are : AreTickets board.table.shared.table_id board.table.shared.key count tickets

-- the graph, the kind and the number of locks are those given, and there is a seat for each number
pub record IsMade (kind : Kind) (graph : List Node) (locks count : ℕ) (board : Board) (seats : List Stepper) : Type 0 where
  pub kind_is : board.table.shared.key.kind ≡ kind
  pub graph_is : first_graph board.table.shared.key ≡ graph
  pub locks_are : board.table.shared.key.locks ≡ locks
  pub count_is : board.table.shared.key.seats ≡ count
  pub places_are : board.table.shared.key.places ≡ places_for count
  pub seats_are : AreNew board.table.shared.table_id board.table.shared.key count seats

-- the first seat, once so many numbers are cut off
abbrev pub less : Start → ℕ → Sight
less key k = record (first_sight key) { idle = first_parts key.kind key.locks key.places k (key.seats - 1 - k) }

-- ---- on the way

-- The first seat has all numbers of a table, of which so many are cut off.
pub record MayCut (table : TableId) (key : Start) (seats : ℕ) (first : Seat Cell Sight) : Type 0 where
  pub sized : IsSized key.locks key.places table
  pub size : IsSize key.places
  pub few : seats ≤ key.places
  pub home : first.table_id ≡ table
  pub view : first.me ≡ (first_sight key, [])
  pub seats_are : (seats ≡ key.seats) × (1 ≤ seats)

-- a seat of this number that did nothing yet
pub record HasDoneNothing (seat : Seat Cell Sight) (kind : Kind) (who locks places : ℕ) (s : Stepper) : Type 0 where
  pub seat_is : s.seat ≡ seat
  pub kind_is : s.kind ≡ kind
  pub who_is : s.who ≡ who
  pub room : s.room ≡ locks
  pub seats : s.seats ≡ places
  pub most : s.most ≡ most_for s.seats
  pub sign : s.sign ≡ sign_at s.room s.who
  pub stamp : s.stamp ≡ 0
  pub base : s.base ≡ base_of s.who
  pub step : s.step ≡ stamp_step s.who
  pub own : s.own ≡ packed (record { seat = Some s.who; stamp = s.stamp; flags = 0 })
  pub order : s.order.items ≡ []
  pub records : s.records.items ≡ []
  pub page : IsSome s.page
