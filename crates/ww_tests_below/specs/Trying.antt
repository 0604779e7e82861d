-- A seat that tries for locks at once, and commits.
use Rattle.std.specs.Prelude.{ℕ, ◌≡◌, ◌+◌, ◌%◌, ◌^◌, ◌∷◌, [], Bool, List, true, slice_set, Some}
use mathlib.Core.Option.{some}
use lib.ListN.{get_elem?}
use Rattle.ww_plain.specs.declared.node.Node.{Node}
use Rattle.ww_plain.specs.declared.history.Record.{Record}
use Rattle.ww_plain.specs.declared.transaction.By.TheVariants.{List as by_list}
use Rattle.ww_plain.specs.Transaction.{add}
use Rattle.ww_plain.specs.Meaning.{done}
use Rattle.ww_plain.specs.History.{recorded_of}
use Rattle.ww_view.specs.View.{IsAway}
use Rattle.ww_table.specs.declared.board.Board.{Board}
use Rattle.ww_seat.specs.declared.committing.NodeChange.{NodeChange}
use Rattle.ww_seat.specs.Standings.{Standing, view_in, IsAt}
use Rattle.ww_tests_below.specs.Looking.{IsSmall, OwnsOnly, just, none, owned_in}

-- it owns both locks
abbrev pub both_owned : List Bool
both_owned = slice_set (just 0) 1 true

-- how often it began a context
abbrev pub draws_in : Standing → ℕ
draws_in s = s.me.0.part.counts.draws

-- a seat of this board, which is small, between two contexts
pub record IsBetween (board : Board) (s : Standing) : Type 0 where
  pub small : IsSmall board
  pub at : IsAt board s
  pub context : (view_in s).stamp ≡ 0
  pub owned : owned_in s ≡ none
  pub away : IsAway (view_in s)

-- its view names this node
abbrev pub NamesNode : ℕ → Node → Standing → Type 0
NamesNode n x s = get_elem? s.me.0.held n ≡ some (Some x)

-- it owns both locks, with these nodes
pub record OwnsBoth (board : Board) (x y : Node) (s : Standing) : Type 0 where
  pub holds : OwnsOnly board both_owned s
  pub zero : NamesNode 0 x s
  pub one : NamesNode 1 y s

-- what a commit makes of a node
abbrev pub raising : ℕ → Node → NodeChange
raising n x = record { number = n; before = x; after = record x { value = (x.value + 1) % 2 ^ 64 } }

-- this seat's commit of this number adds 1 to both nodes
abbrev pub IsRecord : ℕ → ℕ → Record → Type 0
IsRecord who seq r = recorded_of r ≡ record { caller = who; seq = seq; transaction = add by_list ((0, 1) ∷ (1, 1) ∷ []); answer = done }
