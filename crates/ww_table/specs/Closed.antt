-- What closing a table asks, and what it gives.
use Rattle.std.specs.Prelude.{ℕ, ◌≡◌, ◌<◌, ◌≤◌, ◌+◌, ◌∷◌, [], true, List, length, Option, Some, vec_len, vec_capacity}
use mathlib.Core.Option.{some}
use lib.ListN.{get_elem?}
use Rattle.std.specs.List.{AllByRecursion}
use Rattle.atomic_table.specs.declared.shared.Seat.{Seat}
use Rattle.atomic_table.specs.Seated.{TableId}
use Rattle.ww_queue.specs.Queue.{Has}
use Rattle.ww_plain.specs.declared.node.Node.{Node}
use Rattle.ww_plain.specs.declared.history.Record.{Record}
use Rattle.ww_plain.specs.History.{Recorded, history_of, IsLegal, last_graph, part_of}
use Rattle.ww_view.specs.View.{IsBare}
use Rattle.ww_invariant.specs.declared.cells.Cell.{Cell}
use Rattle.ww_invariant.specs.declared.cells.Part.{Part}
use Rattle.ww_invariant.specs.declared.cells.Sight.{Sight}
use Rattle.ww_invariant.specs.declared.cells.Start.{Start}
use Rattle.ww_table.specs.declared.seat.Stepper.{Stepper}
use Rattle.ww_table.specs.declared.close.Rooms.{Rooms}
use Rattle.ww_model.specs.Interrupts.{one_of}
use Rattle.ww_invariant.specs.Rule.{first_graph, own_of, times}
use Rattle.ww_invariant.specs.Records.{AreFree}
use Rattle.ww_table.specs.Seat.{IsSeated, view_of}

-- a seat of the table that holds nothing
pub record HasCome (table : TableId) (s : Stepper) : Type 0 where
  pub seated : IsSeated table s
  pub bare : IsBare (view_of s)
  pub nothing : s.seat.me.1 ≡ []

-- the seats of all numbers are there, and hold nothing
pub record HaveAllCome (table : TableId) (key : Start) (seats : List Stepper) : Type 0 where
  pub each : AllByRecursion (HasCome table) seats
  pub all : (k : ℕ) → k < key.seats → (s : Stepper) × Has seats s × (s.who ≡ k)

-- The records are a legal history from the first graph, and lead to this graph. Each is one of a seat's, and the part
-- of each seat is exactly its log. The seats were no more than the table has.
pub record IsClosed (key : Start) (seats : List Stepper) (records : List Record) (graph : List Node) : Type 0 where
  pub legal : IsLegal (first_graph key) (history_of records)
  pub fold : graph ≡ last_graph (first_graph key) (history_of records)
  pub callers : (k : ℕ) (r : Recorded) → get_elem? (history_of records) k ≡ some r → r.caller < key.seats
  pub parts : (s : Stepper) → Has seats s → part_of s.who (history_of records) ≡ own_of s.records.items
  pub few : length seats ≡ key.seats
  -- each cancel that one seat set for another was heeded, or is pending: of each seat one at most
  pub pending : ℕ → ℕ
  pub balanced : (s t : Stepper) → Has seats s → Has seats t
      → times t.who s.seat.me.0.part.counts.cancelled ≡ times s.who t.seat.me.0.part.counts.heeded
      + one_of s.who t.who (pending t.who)
  -- and nobody heeded a cancel of a number that no seat has
  pub strangers : (k : ℕ) (t : Stepper) → key.seats ≤ k → Has seats t → times k t.seat.me.0.part.counts.heeded ≡ 0

-- ---- on the way

-- the numbers that a view says something of
abbrev pub parts_of : Sight → List Part
parts_of v = v.part ∷ v.idle

-- the places have the records of these numbers, and no others
pub record AreLaid (parts : List Part) (places : List (Option Record)) : Type 0 where
  pub sound : (i : ℕ) (r : Record) → get_elem? places i ≡ some (Some r) → (p : Part) × Has parts p × Has p.own (i, r)
  pub filled : (p : Part) (i : ℕ) (r : Record) → Has parts p → Has p.own (i, r) → (t : Record) × (get_elem? places i ≡ some (Some t))

-- These seats are one, which holds nothing and has all their numbers, and the places have their records.
pub record IsGathered (table : TableId) (seats : List Stepper) (count : ℕ) (token : Seat Cell Sight)
    (places : List (Option Record)) : Type 0 where
  pub home : token.table_id ≡ table
  pub seated : token.me.0.seated ≡ true
  pub bare : IsBare token.me.0.part.core
  pub size : length places ≡ count
  pub laid : AreLaid (parts_of token.me.0) places
  pub all : (s : Stepper) → Has seats s → Has (parts_of token.me.0) s.seat.me.0.part
  pub many : length (parts_of token.me.0) ≡ length seats

-- the places have room for the records of a seat
abbrev pub HasPlaces : ℕ → Stepper → Type 0
HasPlaces count s = AllByRecursion (λ p. p.0 < count) s.records.items

-- free places for so many records, with room for these, and room for so many nodes
pub record HasRoom (count size : ℕ) (r : Rooms) : Type 0 where
  pub places : length r.places.items ≡ count
  pub free : AreFree r.places.items
  pub records : r.records.items ≡ []
  pub records_room : (vec_len r.records ≡ 0) × (count ≤ vec_capacity r.records)
  pub nodes : r.nodes.items ≡ []
  pub nodes_room : (vec_len r.nodes ≡ 0) × (size ≤ vec_capacity r.nodes)
