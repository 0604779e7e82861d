-- The rule of the table: there is a reached state of the core that the words, the lists and nodes at home, and the
-- views show.
use Rattle.std.specs.Prelude.{ℕ, zero, suc, ◌≡◌, ◌≢◌, ◌+◌, ◌-◌, ◌^◌, ◌<◌, ◌≤◌, ◌⊎◌, ◌==◌, min, nat_lt, if◌then◌else◌, true, List, [], ◌∷◌, length, map, replicate, slice_index, Some, None, Bool, false}
use Rattle.std.specs.List.{AllByRecursion}
use mathlib.Core.Option.{some}
use mathlib.Core.Option as maybe
use lib.ListN.{get_elem?}
use Rattle.atomic_table.specs.Table.{State as TableState, Me}
use Rattle.ww_word.specs.AnySeats.{packed, most_for}
use Rattle.ww_queue.specs.declared.kind.Kind.{Kind}
use Rattle.ww_queue.specs.declared.entry.Entry.{Entry}
use Rattle.ww_queue.specs.Queue.{StandsNot}
use Rattle.ww_model.specs.declared.state.Holder.{Holder}
use Rattle.ww_model.specs.declared.state.Holder.TheVariants.{Taken}
use Rattle.ww_model.specs.declared.event.Event.{Event}
use Rattle.ww_model.specs.State.{State, one_if}
use Rattle.ww_model.specs.Interrupts.{one_of}
use Rattle.ww_model.specs.Event.{Possible, after}
use Rattle.ww_model.specs.Run.{Reached}
use Rattle.ww_plain.specs.declared.node.Node.{Node}
use Rattle.ww_plain.specs.declared.history.Record.{Record}
use Rattle.ww_plain.specs.Graph.{IsNodeOf, node_at}
use Rattle.ww_plain.specs.History.{Recorded, recorded_of, IsLegal, last_graph, part_of}
use Rattle.ww_model.specs.State.{word_of}
use Rattle.ww_view.specs.View.{Knows, IsBare, owns, first_view}
use Rattle.ww_invariant.specs.declared.cells.Cell.{Cell}
use Rattle.ww_invariant.specs.declared.cells.Cell.TheVariants.{Content, Line}
use Rattle.ww_invariant.specs.declared.cells.Counts.{Counts}
use Rattle.ww_invariant.specs.declared.cells.Part.{Part}
use Rattle.ww_invariant.specs.declared.cells.Sight.{Sight}
use Rattle.ww_invariant.specs.declared.cells.Start.{Start}
use Rattle.ww_invariant.specs.Layout.{owner_at, guard_at, sign_at, cancel_at, stamp_at, front_at, words_for, list_at, slots_for}

-- the table as plain data
abbrev pub St : Type 0
St = TableState Cell Sight

-- a seat's view, and the slots that it has out
abbrev pub Sat : Type 0
Sat = Me Cell Sight

-- the nodes of this graph; or none, of a table whose locks are bare
abbrev pub nodes_of : Bool → List Node → List Node
nodes_of true graph = []
nodes_of false graph = graph

-- the nodes that the table was made with
abbrev pub first_graph : Start → List Node
first_graph key = nodes_of key.bare key.nodes.value

-- 64 nodes at most, of which each port names one that is there
pub record AreNodes (graph : List Node) : Type 0 where
  pub few : length graph ≤ 64
  pub closed : AllByRecursion (IsNodeOf (length graph)) graph

-- a log, as the plain graph tells records
abbrev pub own_of : List (ℕ × Record) → List (ℕ × Recorded)
own_of records = map (λ p. (p.0, recorded_of p.1)) records

-- the sum of f below n
abbrev pub total : ℕ → (ℕ → ℕ) → ℕ
total zero f = 0
total (suc n) f = f n + total n f

-- there are 16 seats, or more
abbrev pub IsSize : ℕ → Type 0
IsSize places = (places ≡ 16) ⊎ ((16 < places) × (places < 4096))

-- how many seats the core has for so many seats of the table
abbrev pub places_for : ℕ → ℕ
places_for seats = if nat_lt 16 seats then seats else 16

-- the words show the core, of so many locks and seats, and how often a stamp was drawn
pub record Shown (locks places all : ℕ) (c : State) (words : List ℕ) : Type 0 where
  pub wide : length words ≡ words_for locks places
  pub owners : (n : ℕ) → n < locks → slice_index words (owner_at locks n) ≡ packed (word_of c n)
  pub guards : (n : ℕ) → n < locks → slice_index words (guard_at locks n) ≡ c.guard n
  pub signs : (s : ℕ) → s < places → slice_index words (sign_at locks s) ≡ c.sign s
  pub cancels : (s : ℕ) → s < places → slice_index words (cancel_at locks s) ≡ c.cancel s
  pub drawn : slice_index words stamp_at ≡ all
  pub front : slice_index words front_at ≡ c.commits

-- a node whose lock no seat has taken, and a list whose guard is free, is at home
pub record AtHome (locks : ℕ) (graph : List Node) (owner : ℕ → Holder) (queue : ℕ → List Entry) (guard : ℕ → ℕ)
    (homes : List (maybe.Option Cell)) : Type 0 where
  pub deep : length homes ≡ slots_for locks
  pub nodes : (n : ℕ) → n < length graph → ((s : ℕ) → owner n ≢ Taken s) → get_elem? homes n ≡ some (some (Content (node_at graph n)))
  pub lists : (n : ℕ) → n < locks → guard n ≡ 0 → get_elem? homes (list_at n) ≡ some (some (Line (queue n)))

-- how often a seat is in the list
abbrev pub times : ℕ → List ℕ → ℕ
times s [] = 0
times s (t ∷ ts) = one_if (t == s) + times s ts

-- how many wakes a seat owed seat u so far, by what its part says: one each time that it set the cancel of u, and one for
-- each of its debts to u
abbrev pub wakes_owed : Part → ℕ → ℕ
wakes_owed p u = times u p.counts.cancelled + times u p.core.debts

-- each cancel that one seat set for another was heeded by it, or is pending
abbrev pub Balanced : (ℕ → ℕ) → (ℕ → Counts) → Type 0
Balanced cancel counts = (s v : ℕ) →
    times v (counts s).cancelled ≡ times s (counts v).heeded + one_of s v (cancel v)

-- what is counted of a number that did nothing yet
abbrev pub no_counts : Counts
no_counts = record { draws = 0; cancelled = []; heeded = [] }

-- The commits so far are a legal history, as many as the front word says. Each seat drew fewer than 2^52 times and
-- committed fewer than 2^32 times, and the draws make up the stamp word. Nothing is counted of a number that no seat has.
pub record Counted (key : Start) (all commits : ℕ) (cancel : ℕ → ℕ) (log : List Recorded) (counts : ℕ → Counts) : Type 0 where
  pub legal : IsLegal (first_graph key) log
  pub graph : AreNodes (last_graph (first_graph key) log)
  pub size : length (last_graph (first_graph key) log) ≡ length (first_graph key)
  pub front : commits ≡ length log
  pub stamps : all ≡ total key.places (λ t. (counts t).draws)
  pub balanced : Balanced cancel counts
  pub strangers : (t : ℕ) → key.seats ≤ t → counts t ≡ no_counts
  pub few : (t : ℕ) → (counts t).draws < 2 ^ 52
  pub brief : (t : ℕ) → length (part_of t log) < 2 ^ 32
  pub callers : (k : ℕ) (x : Recorded) → get_elem? log k ≡ some x → x.caller < key.seats

-- what the view j says of a seat's number
pub record PartFits (key : Start) (c : State) (log : List Recorded) (at : ℕ → ℕ) (counts : ℕ → Counts) (j : ℕ) (p : Part) : Type 0 where
  pub place : at p.core.who ≡ j
  pub number : p.core.who < key.seats
  pub knows : Knows c p.core
  pub counted : p.counts ≡ counts p.core.who
  pub own : own_of p.own ≡ part_of p.core.who log

-- What the view j says: of its own number, of the nodes that it holds, and of the numbers that lie idle in it.
pub record Sits (key : Start) (c : State) (log : List Recorded) (at : ℕ → ℕ) (counts : ℕ → Counts) (j : ℕ) (v : Sight) : Type 0 where
  pub part : PartFits key c log at counts j v.part
  pub room : length v.held ≡ length (first_graph key)
  pub held : (n : ℕ) → owns v.part.core n ≡ true → n < length (first_graph key)
      → get_elem? v.held n ≡ some (Some (node_at (last_graph (first_graph key) log) n))
  pub idle : (k : ℕ) (p : Part) → get_elem? v.idle k ≡ some p → PartFits key c log at counts j p × IsBare p.core
  pub apart : (k : ℕ) (p : Part) → get_elem? v.idle k ≡ some p → p.core.who ≢ v.part.core.who
  pub differ : (k l : ℕ) (p q : Part) → get_elem? v.idle k ≡ some p → get_elem? v.idle l ≡ some q → p.core.who ≡ q.core.who → k ≡ l

-- the view says something of this number
abbrev pub Speaks : Sight → ℕ → Type 0
Speaks v t = (v.part.core.who ≡ t) ⊎ ((k : ℕ) × (p : Part) × (get_elem? v.idle k ≡ some p) × (p.core.who ≡ t))

-- the view j is that of a seat, and speaks of this number
pub record IsThere (views : List Sight) (j t : ℕ) : Type 0 where
  pub view : Sight
  pub stands : get_elem? views j ≡ some view
  pub seated : view.seated ≡ true
  pub speaks : Speaks view t

-- a number that no seat has: it has no context and no lock, and is in no guard and in no wait list
pub record IsStranger (c : State) (t : ℕ) : Type 0 where
  pub stamp : c.stamp t ≡ 0
  pub bare : (n : ℕ) → c.owner n ≢ Taken t
  pub outside : (n : ℕ) → c.guard n ≢ suc t
  pub waits : (n : ℕ) → StandsNot (c.queue n) t

pub record Ruled (key : Start) (s : St) : Type 0 where
  pub core : State
  pub log : List Recorded
  pub at : ℕ → ℕ
  pub counts : ℕ → Counts
  pub all : ℕ
  pub reached : Reached core
  pub kind : core.kind ≡ key.kind
  pub locks : core.locks ≡ key.locks
  pub many : key.locks ≤ 16777216
  pub fits : length (first_graph key) ≤ key.locks
  pub places : core.seats ≡ key.places
  pub sizes : IsSize key.places
  pub seats_there : key.seats ≤ key.places
  -- a stamp that was drawn beyond the greatest one is that of no context
  pub drawn : min all (most_for key.places) ≡ core.drawn
  pub strangers : (t : ℕ) → key.seats ≤ t → IsStranger core t
  pub words : Shown key.locks key.places all core s.words
  pub homes : AtHome key.locks (last_graph (first_graph key) log) core.owner core.queue core.guard s.homes
  pub counted : Counted key all core.commits core.cancel log counts
  pub seats : (j : ℕ) (v : Sight) → get_elem? s.views j ≡ some v → v.seated ≡ true → Sits key core log at counts j v
  pub there : (t : ℕ) → t < key.seats → IsThere s.views (at t) t

-- the table goes from s to s' by an event of the core that it shows, and these are the commits then
pub record MakesWith (key : Start) (s : St) (r : Ruled key s) (e : Event) (log : List Recorded) (s' : St) : Type 0 where
  pub can : Possible r.core e
  pub ruled : Ruled key s'
  pub is : ruled.core ≡ after r.core e
  pub commits : ruled.log ≡ log

-- ... and the commits stay as they are
abbrev pub Makes : (key : Start) (s : St) (r : Ruled key s) → Event → St → Type 0
Makes key s r e s' = MakesWith key s r e r.log s'

-- the table goes from s to s' without an event: the core and the commits stay as they are
pub record Stays (key : Start) (s : St) (r : Ruled key s) (s' : St) : Type 0 where
  pub ruled : Ruled key s'
  pub is : ruled.core ≡ r.core
  pub commits : ruled.log ≡ r.log

-- ---- at the start

-- a number that did nothing yet, at a table of so many locks and seats
abbrev pub first_part : Kind → ℕ → ℕ → ℕ → Part
first_part kind locks places s = record { core = first_view kind locks places s; counts = no_counts; own = [] }

-- the numbers s, s + 1 and so on, n of them
abbrev pub first_parts : Kind → ℕ → ℕ → ℕ → ℕ → List Part
first_parts kind locks places s zero = []
first_parts kind locks places s (suc n) = first_part kind locks places s ∷ first_parts kind locks places (s + 1) n

-- the seat from which the others are cut off: it has the last number
abbrev pub first_sight : Start → Sight
first_sight key = record {
  seated = true;
  part = first_part key.kind key.locks key.places (key.seats - 1);
  held = replicate (length (first_graph key)) None;
  idle = first_parts key.kind key.locks key.places 0 (key.seats - 1);
}
