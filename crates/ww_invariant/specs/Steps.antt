-- What each step asks of the seat, and what it makes of it.
use Rattle.std.specs.Prelude.{ℕ, ◌≡◌, ◌≢◌, ◌<◌, ◌≤◌, ◌+◌, ◌-◌, ◌^◌, true, false, List, [], ◌∷◌, ◌++◌, length, map, replicate, slice_set, Option, Some, None, IsTrue, ◌==◌}
use Rattle.std.specs.List.{AllByRecursion}
use Rattle.atomic_table.specs.Table.{Step, rest}
use Rattle.ww_word.specs.declared.owner.Owner.{Owner}
use Rattle.ww_word.specs.AnySeats.{IsValid, packed, most_for, unflagged}
use Rattle.ww_queue.specs.declared.kind.Kind.TheVariants.{WoundWait}
use Rattle.ww_plain.specs.declared.node.Node.{Node}
use Rattle.ww_plain.specs.declared.history.Record.{Record}
use Rattle.ww_plain.specs.Numbers.{is_among}
use Rattle.ww_plain.specs.Graph.{no_node, node_at, IsNodeOf}
use Rattle.ww_plain.specs.Footprint.{footprint_of}
use Rattle.ww_plain.specs.Transaction.{transaction_of}
use Rattle.ww_plain.specs.Meaning.{graph_after}
use Rattle.ww_plain.specs.History.{Recorded, IsNext}
use Rattle.ww_view.specs.declared.view.View.{View}
use Rattle.ww_view.specs.View.{owns, IsAway, IsBare}
use Rattle.ww_view.specs.Made.{begun, ended, fast_taken, fast_missed, fast_given, fast_kept, has_read, has_seen_word}
use Rattle.ww_invariant.specs.declared.cells.Cell.{Cell}
use Rattle.ww_invariant.specs.declared.cells.Cell.TheVariants.{Content}
use Rattle.ww_invariant.specs.declared.cells.Part.{Part}
use Rattle.ww_invariant.specs.declared.cells.Sight.{Sight}
use Rattle.ww_invariant.specs.Layout.{owner_at, sign_at, stamp_at}
use Rattle.ww_invariant.specs.Rule.{Sat, first_part}

-- the view with other knowledge of the core
abbrev pub knowing : Sight → View → Sight
knowing v w = record v { part = record (v.part) { core = w } }

-- the owner of a lock that the seat has taken, with nobody waiting
abbrev pub taker : View → Owner
taker v = record { seat = Some v.who; stamp = v.stamp; flags = 0 }

-- ---- draw: the next stamp

-- it may start a context: it has none, and no lock
pub record MayDraw (p : Part) : Type 0 where
  pub away : IsAway p.core
  pub no_context : p.core.stamp ≡ 0
  pub bare : IsBare p.core
  pub fewer : p.counts.draws + 1 < 2 ^ 52

abbrev pub drawing : Sight → ℕ → Sight
drawing v stamp = record v {
  part = record (v.part) {
    core = begun v.part.core stamp;
    counts = record (v.part.counts) { draws = v.part.counts.draws + 1 };
  };
}

-- all stamps are spent: no context begins
abbrev pub drawing_none : Sight → Sight
drawing_none v = record v {
  part = record (v.part) { counts = record (v.part.counts) { draws = v.part.counts.draws + 1 } };
}

abbrev pub draws_to : Step Cell → Sat → ℕ → Sat → Type 0
draws_to st m found m' = st.word ≡ stamp_at → (found < 2 ^ 64 - 1)
    × (found < most_for m.0.part.core.seats → m' ≡ (drawing m.0 (found + 1), m.1))
    × (most_for m.0.part.core.seats ≤ found → m' ≡ (drawing_none m.0, m.1))
    × (m.0.part.core.seats ≡ 16 → found < most_for m.0.part.core.seats)

-- ---- take_free: one try to take a lock by one step

-- its view once it has the lock, and names the node's value
abbrev pub taking : Sight → ℕ → Node → Sight
taking v n x = record v { part = record (v.part) { core = fast_taken v.part.core n }; held = slice_set v.held n (Some x) }

abbrev pub takes_to : Step Cell → Sat → ℕ → Sat → Type 0
takes_to st m found m' = (n : ℕ) → st.word ≡ owner_at m.0.part.core.room n →
    (found ≡ 0 → (x : Node) × IsNodeOf (length m.0.held) x × (m' ≡ (taking m.0 n x, (n, Content x) ∷ m.1)))
    × (found ≢ 0 → m' ≡ (knowing m.0 (fast_missed m.0.part.core), m.1))

-- ---- give_free: the lock is released by one step, where nobody waits

abbrev pub giving : Sight → ℕ → Sight
giving v n = record v { part = record (v.part) { core = fast_given v.part.core n }; held = slice_set v.held n None }

-- ... and where somebody does, it is kept
abbrev pub keeping : Sight → Sight
keeping v = knowing v (fast_kept v.part.core)

abbrev pub gives_to : Step Cell → Sat → ℕ → Sat → Type 0
gives_to st m found m' = (n : ℕ) → st.word ≡ owner_at m.0.part.core.room n →
    (found ≡ st.first → m' ≡ (giving m.0 n, rest m.1)) × (found ≢ st.first → m' ≡ (keeping m.0, m.1))

-- ---- the same of a lock that guards no node: no slot comes or goes, and the word says whether the seat owns it

-- what a seat that is away learns from an owner word: without its flags it is the seat's own just where it owns the lock
abbrev pub IsToldBy : View → ℕ → ℕ → Type 0
IsToldBy v n found = owns v n ≡ (unflagged found == unflagged (packed (taker v)))

-- it is taken where the word was 0; where the seat owns it nothing changes
abbrev pub takes_bare_to : Step Cell → Sat → ℕ → Sat → Type 0
takes_bare_to st m found m' = (n : ℕ) → st.word ≡ owner_at m.0.part.core.room n → IsToldBy m.0.part.core n found
    × (found ≡ 0 → m' ≡ (knowing m.0 (fast_taken m.0.part.core n), m.1))
    × (found ≢ 0 → owns m.0.part.core n ≡ true → m' ≡ m)
    × (found ≢ 0 → owns m.0.part.core n ≡ false → m' ≡ (knowing m.0 (fast_missed m.0.part.core), m.1))

-- it is released where the word was the seat's own without flags; where the seat doesn't own it nothing changes
abbrev pub gives_bare_to : Step Cell → Sat → ℕ → Sat → Type 0
gives_bare_to st m found m' = (n : ℕ) → st.word ≡ owner_at m.0.part.core.room n → IsToldBy m.0.part.core n found
    × (found ≡ st.first → m' ≡ (knowing m.0 (fast_given m.0.part.core n), m.1))
    × (found ≢ st.first → owns m.0.part.core n ≡ true → m' ≡ (keeping m.0, m.1))
    × (found ≢ st.first → owns m.0.part.core n ≡ false → m' ≡ m)

-- ---- owns: the owner word of any lock, read by a seat that is away, which says whether it owns the lock

abbrev pub owns_to : Step Cell → Sat → ℕ → Sat → Type 0
owns_to st m found m' = (m' ≡ m) × ((n : ℕ) → st.word ≡ owner_at m.0.part.core.room n → IsToldBy m.0.part.core n found)

-- ---- whose: the owner word of any lock, which is that of an owner, and of which the view notes what was found

abbrev pub seeing : Sight → ℕ → ℕ → Sight
seeing v n found = knowing v (has_seen_word v.part.core n found)

abbrev pub whose_to : Step Cell → Sat → ℕ → Sat → Type 0
whose_to st m found m' = ((o : Owner) × IsValid o × (found ≡ packed o)) × ((n : ℕ) → st.word ≡ owner_at m.0.part.core.room n →
    (m' ≡ (seeing m.0 n found, m.1)) × (IsAway m.0.part.core → IsToldBy m.0.part.core n found) × (found ≡ 0 → owns m.0.part.core n ≡ false))

-- ---- end: the context ends, where the own sign is 0

pub record MayEnd (v : View) : Type 0 where
  pub away : IsAway v
  pub context : 0 < v.stamp
  pub bare : IsBare v

abbrev pub ends_to : Step Cell → Sat → ℕ → Sat → Type 0
ends_to st m found m' = st.word ≡ sign_at m.0.part.core.room m.0.part.core.who →
    (found ≡ 0 → m' ≡ (knowing m.0 (ended m.0.part.core), m.1)) × (found ≢ 0 → m' ≡ (knowing m.0 (has_read m.0.part.core found), m.1))
    × ((k : ℕ) → m.0.part.core.sign ≡ Some k → found ≡ k)

-- ---- place: a commit

-- a node as far as the view names it
abbrev pub known : Option Node → Node
known None = no_node
known (Some x) = x

-- the graph as far as the view names its nodes
abbrev pub graph_of : List (Option Node) → List Node
graph_of held = map known held

-- the nodes that a view names from the i-th on, as they are in this graph
abbrev pub renewed : ℕ → List (Option Node) → List Node → List (Option Node)
renewed i [] graph = []
renewed i (None ∷ os) graph = None ∷ renewed (i + 1) os graph
renewed i (Some x ∷ os) graph = Some (node_at graph i) ∷ renewed (i + 1) os graph

-- the record is the seat's next, of a transaction whose footprint it holds, and of which the nodes held give the answer
pub record MayPlace (v : Sight) (r : Recorded) : Type 0 where
  pub away : IsAway v.part.core
  pub owner : (n : ℕ) × (owns v.part.core n ≡ true)
  pub caller : r.caller ≡ v.part.core.who
  pub seq : r.seq ≡ length v.part.own
  pub next : IsNext (graph_of v.held) r
  pub covers : (n : ℕ) → IsTrue (is_among n (footprint_of (graph_of v.held) r.transaction)) → owns v.part.core n ≡ true
  pub fewer : length v.part.own + 1 < 2 ^ 32

-- one record more, and the nodes held are what the transaction makes of them
abbrev pub placing : Sight → ℕ → Record → Sight
placing v place r = record v {
  part = record (v.part) { own = v.part.own ++ (place, r) ∷ [] };
  held = renewed 0 v.held (graph_after (graph_of v.held) (transaction_of r.txn));
}

-- its place is above all that it had
abbrev pub places_to : Option Record → Step Cell → Sat → ℕ → Sat → Type 0
places_to about st m found m' = (r : Record) → about ≡ Some r → (m' ≡ (placing m.0 found r, m.1))
    × AllByRecursion (λ p. p.0 < found) m.0.part.own × (found < 2 ^ 44)

-- ---- splitting and joining seats

-- nobody: what is left of a seat that was joined to another
abbrev pub nobody : Sight
nobody = record { seated = false; part = first_part WoundWait 0 0 0; held = []; idle = [] }

abbrev pub sight_of : ℕ → Part → Sight
sight_of size p = record { seated = true; part = p; held = replicate size None; idle = [] }

abbrev pub rest_of : List Part → List Part
rest_of [] = []
rest_of (p ∷ ps) = ps

-- the seat of the first of the idle numbers
abbrev pub first_seat : ℕ → List Part → Sight
first_seat size [] = nobody
first_seat size (p ∷ ps) = sight_of size p

abbrev pub without_first : Sight → Sight
without_first v = record v { idle = rest_of v.idle }

abbrev pub with_seat : Sight → Sight → Sight
with_seat v w = record v { idle = v.idle ++ w.part ∷ w.idle }
