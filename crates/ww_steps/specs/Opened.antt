-- What opening a world gives.
use Rattle.std.specs.Prelude.{ℕ, max, ◌≡◌, ◌<◌, ◌≤◌, ◌+◌, ◌/◌, ◌^◌, ◌⊎◌, [], List, Bool, true, false, replicate, length, map, slice_index_or, slice_set, Option, Some, None, is_none}
use Rattle.atomic_table.specs.Seated.{TableId}
use Rattle.ww_word.specs.declared.wide.TheConstants.{MANY_SEATS}
use Rattle.ww_queue.specs.declared.kind.Kind.{Kind}
use Rattle.ww_view.specs.View.{first_view}
use Rattle.ww_invariant.specs.Rule.{first_graph, places_for}
use Rattle.ww_table.specs.declared.board.Board.{Board}
use Rattle.ww_table.specs.declared.make.Ticket.{Ticket}
use Rattle.ww_table.specs.Made.{IsTicket}
use Rattle.ww_steps.specs.declared.turn.Turn.TheVariants.{Rests}
use Rattle.ww_steps.specs.declared.opening.TheConstants.{MAX_LOCKS}
use Rattle.ww_steps.specs.declared.opening.OpenFault.{OpenFault}
use Rattle.ww_steps.specs.declared.opening.OpenFault.TheVariants.{BadLocks, BadSeats, BadContexts, NoMemory}
use Rattle.ww_steps.specs.declared.opening.NoDesk.{NoDesk}
use Rattle.ww_steps.specs.declared.opening.NoDesk.TheVariants.{NoSeat, MadeBefore, NoRoom}
use Rattle.ww_steps.specs.Situations.{Situation}

-- the desk of this number, which has done nothing yet
abbrev pub fresh : TableId → ℕ → ℕ → Kind → ℕ → ℕ → Situation
fresh home size seats kind left caller = record {
  home = home;
  size = size;
  seats = seats;
  kind = kind;
  caller = caller;
  left = left;
  draws = 0;
  stamp = 0;
  is_done = false;
  held = [];
  told = None;
  turn = Rests;
  wakes = replicate ((places_for seats + 63) / 64) 0;
  tries = 0;
  takes = 0;
  deaths = 0;
  cancelled = [];
  pendings = 0;
  interrupted = [];
  view = first_view kind size (places_for seats) caller;
}

-- there are some, and no more than these
pub record IsCount (n most : ℕ) : Type 0 where
  pub some : 1 ≤ n
  pub few : n ≤ most

-- the locks and the seats of a world, and how many contexts each seat may begin
pub record IsWorldSize (locks seats left : ℕ) : Type 0 where
  pub locks_are : IsCount locks MAX_LOCKS
  pub seats_are : IsCount seats MANY_SEATS
  pub few_contexts : left < 2 ^ 52

-- a table of so many locks, none of which guards a node, and of which it packs the words, and of so many seats
pub record IsBareTable (b : Board) (locks seats : ℕ) : Type 0 where
  pub bare : first_graph b.table.shared.key ≡ []
  pub locks_are : b.table.shared.key.locks ≡ locks
  pub packed : 64 < locks
  pub few_locks : locks ≤ 16777216
  pub places_are : b.table.shared.key.places ≡ places_for seats
  pub few_seats : seats < 4096

-- how many locks a world has that is to have so many: more than 64, so that its table packs their words
abbrev pub locks_for : ℕ → ℕ
locks_for locks = max locks 65

-- What a contract sees of an office: its table, how many locks that has and of which kind, how many contexts each desk may begin,
-- and of each seat whether its desk was made.
pub record Premises : Type 0 where
  pub home : TableId
  pub size : ℕ
  pub kind : Kind
  pub left : ℕ
  pub made : List Bool

abbrev pub premises_of : Board → ℕ → ℕ → List (Option Ticket) → Premises
premises_of b locks left tickets = record {
  home = b.table.shared.table_id;
  size = locks;
  kind = b.table.shared.key.kind;
  left = left;
  made = map is_none tickets;
}

-- a ticket that is still there is one of this board, and stands at its number
abbrev pub AreLeft : Board → List (Option Ticket) → Type 0
AreLeft b tickets = (k : ℕ) (t : Ticket) → slice_index_or tickets k None ≡ Some t
    → IsTicket b.table.shared.table_id b.table.shared.key t × (t.who ≡ k)

-- what is true of an office, whichever desks were made
pub record IsOffice (b : Board) (kind : Kind) (locks left : ℕ) (tickets : List (Option Ticket)) : Type 0 where
  pub table : IsBareTable b locks (length tickets)
  pub kind_is : kind ≡ b.table.shared.key.kind
  pub few_contexts : left < 2 ^ 52
  pub tickets_are : AreLeft b tickets

-- no desk of this new world was made
pub record IsOpened (kind : Kind) (locks seats left : ℕ) (h : Premises) : Type 0 where
  pub sizes : IsWorldSize locks seats left
  pub size_is : h.size ≡ locks_for locks
  pub kind_is : h.kind ≡ kind
  pub left_is : h.left ≡ left
  pub none_made : h.made ≡ replicate seats false

-- the office with this desk made
abbrev pub with_made : Premises → ℕ → Premises
with_made h k = record h { made = slice_set h.made k true }

-- The desk of this number is made, which was not made before, and has done nothing yet. Nothing else of the office has changed.
pub record HasMadeDesk (h : Premises) (k : ℕ) (d : Situation) (h' : Premises) : Type 0 where
  pub there : k < length h.made
  pub unmade : slice_index_or h.made k true ≡ false
  pub desk : d ≡ fresh h.home h.size (length h.made) h.kind h.left k
  pub after : h' ≡ with_made h k

-- why there is no desk of this number: whether it was made is told only of a seat that there is
abbrev pub IsNoDesk : Premises → ℕ → NoDesk → Type 0
IsNoDesk h k NoSeat = length h.made ≤ k
IsNoDesk h k MadeBefore = (k < length h.made) × (slice_index_or h.made k false ≡ true)
IsNoDesk h k NoRoom = (k < length h.made) × (slice_index_or h.made k true ≡ false)

-- which number is out of range, the first one; or none is
abbrev pub IsOpenFault : ℕ → ℕ → ℕ → OpenFault → Type 0
IsOpenFault locks seats left BadLocks = (locks ≡ 0) ⊎ (MAX_LOCKS < locks)
IsOpenFault locks seats left BadSeats = IsCount locks MAX_LOCKS × ((seats ≡ 0) ⊎ (MANY_SEATS < seats))
IsOpenFault locks seats left BadContexts = IsCount locks MAX_LOCKS × IsCount seats MANY_SEATS × (2 ^ 52 ≤ left)
IsOpenFault locks seats left NoMemory = IsWorldSize locks seats left
