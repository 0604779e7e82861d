-- What a commit writes, and a seat in the middle of one.
use Rattle.std.specs.Prelude.{ℕ, ◌≡◌, ◌<◌, true, false, List, map, Option, Some, IsTrue}
use Rattle.std.specs.List.{AllByRecursion}
use mathlib.Core.Option.{some}
use lib.ListN.{get_elem?}
use Rattle.ww_plain.specs.declared.node.Node.{Node}
use Rattle.ww_plain.specs.Numbers.{is_among}
use Rattle.ww_plain.specs.Graph.{node_at}
use Rattle.ww_plain.specs.Footprint.{footprint_of}
use Rattle.ww_plain.specs.Transaction.{Transaction}
use Rattle.ww_plain.specs.Meaning.{graph_after}
use Rattle.ww_view.specs.View.{owns}
use Rattle.ww_invariant.specs.Rule.{Sat}
use Rattle.ww_table.specs.declared.board.Board.{Board}
use Rattle.ww_table.specs.declared.seat.Stepper.{Stepper}
use Rattle.ww_table.specs.Seat.{size_of, view_of}
use Rattle.ww_seat.specs.declared.committing.NodeChange.{NodeChange}
use Rattle.ww_seat.specs.Orderly.{IsOrderly}

-- what becomes of one node between two graphs
abbrev pub change_at : List Node → List Node → ℕ → NodeChange
change_at before after n = record { number = n; before = node_at before n; after = node_at after n }

-- what a transaction makes of each node of its footprint
abbrev pub changes_of : List Node → Transaction → List NodeChange
changes_of graph txn = map (change_at graph (graph_after graph txn)) (footprint_of graph txn)

-- the seat, if its view named these values
abbrev pub naming : Sat → List (Option Node) → Sat
naming m held = (record (m.0) { held = held }, m.1)

-- Out are these nodes as they are in the graph afterwards, and the others as they were named before.
pub record IsChanged (size : ℕ) (held : List (Option Node)) (after : List Node) (ns : List ℕ) (m : Sat) : Type 0 where
  pub now : List (Option Node)
  pub orderly : IsOrderly size (naming m now)
  pub named : (n : ℕ) → IsTrue (is_among n ns) → get_elem? now n ≡ some (Some (node_at after n))
  pub others : (n : ℕ) → is_among n ns ≡ false → get_elem? now n ≡ get_elem? held n

-- These nodes may be changed: each is one that the seat owns, and out are nodes as some view names them.
pub record MayChange (board : Board) (changes : List NodeChange) (s : Stepper) : Type 0 where
  pub changes_are : (before : List Node) × (after : List Node) × (ns : List ℕ) × (changes ≡ map (change_at before after) ns)
  pub out : (held : List (Option Node)) × IsOrderly (size_of board) (naming s.seat.me held)
  pub owned : AllByRecursion (λ c. (c.number < size_of board) × (owns (view_of s) c.number ≡ true)) changes

-- its view is as it was, and out are the nodes as they are afterwards
pub record HasChanged (board : Board) (changes : List NodeChange) (s s' : Stepper) : Type 0 where
  pub view : s'.seat.me.0 ≡ s.seat.me.0
  pub changed : (held : List (Option Node)) (before after : List Node) (ns : List ℕ)
      → changes ≡ map (change_at before after) ns → IsOrderly (size_of board) (naming s.seat.me held)
      → IsChanged (size_of board) held after ns s'.seat.me
