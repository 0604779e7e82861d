-- What each step inside a guard asks of the seat beside its view, and what it makes of the seat.
use Rattle.std.specs.Prelude.{ℕ, suc, ◌≡◌, ◌≢◌, ◌<◌, ◌⊎◌, ◌==◌, Bool, List, [], ◌∷◌, length, slice_set, Some, None}
use Rattle.atomic_table.specs.Table.{Step, rest}
use Rattle.ww_word.specs.declared.owner.Owner.{Owner}
use Rattle.ww_word.specs.AnySeats.{IsValid, packed}
use Rattle.ww_queue.specs.Queue.{Stands, StandsNot, IsNewStamp}
use Rattle.ww_plain.specs.declared.node.Node.{Node}
use Rattle.ww_plain.specs.Graph.{IsNodeOf}
use Rattle.ww_view.specs.declared.view.View.{View}
use Rattle.ww_view.specs.View.{NobodyWrites}
use Rattle.ww_view.specs.May.{MayDie}
use Rattle.ww_view.specs.Made.{queued, taken, given, has_asked, died}
use Rattle.ww_invariant.specs.declared.cells.Cell.{Cell}
use Rattle.ww_invariant.specs.declared.cells.Cell.TheVariants.{Content, Line}
use Rattle.ww_invariant.specs.declared.cells.Sight.{Sight}
use Rattle.ww_invariant.specs.Layout.{owner_at, list_at}
use Rattle.ww_invariant.specs.Rule.{Sat}
use Rattle.ww_invariant.specs.Out.{slot_of, AreOthers}
use Rattle.ww_invariant.specs.Steps.{knowing}
use Rattle.ww_invariant.specs.Guards.{lost}

-- what a step on an owner word is told, at a table of so many locks: the lock, and the owner that the seat expects
abbrev pub Expects : ℕ → Step Cell → ℕ → Owner → Type 0
Expects locks st n o = (st.word ≡ owner_at locks n) × IsValid o × (st.first ≡ packed o)

-- the seat is inside the guard, nobody else writes the owner word there, and this is the owner that it saw last
pub record IsStillThere (v : View) (n : ℕ) (o : Owner) : Type 0 where
  pub inside : v.inside ≡ suc n
  pub alone : NobodyWrites v n
  pub seen : v.seen ≡ Some o

-- What such a step makes of the seat where the word is the one expected; where it is another, nothing but that it made
-- a step. It is the one expected where the seat saw it last and nobody else writes it.
abbrev pub tries_to : (ℕ → Owner → Sat → Sat → Type 0) → Step Cell → Sat → ℕ → Sat → Type 0
tries_to wins st m found m' = (n : ℕ) (o : Owner) → Expects m.0.part.core.room st n o →
    (found ≡ packed o → wins n o m m') × (found ≢ packed o → m' ≡ (lost m.0, m.1))
    × (IsStillThere m.0.part.core n o → found ≡ packed o)

-- the wait list is the slot taken last, and the seat is as it was except the order of its slots
pub record HasListOnTop (m : Sat) (n : ℕ) (m' : Sat) : Type 0 where
  pub others : List (ℕ × Cell)
  pub apart : AreOthers m.1 (list_at n) (Line m.0.part.core.list) others
  pub now : m' ≡ (m.0, (list_at n, Line m.0.part.core.list) ∷ others)

-- the seat stands in the list that it is inside of, if it waits at all
abbrev pub StandsIfWaiting : View → Type 0
StandsIfWaiting v = (v.waits ≡ 0) ⊎ Stands v.list v.who

-- ---- join: into the wait list

-- the list has room for the seat, which doesn't stand in it, and no waiter has its stamp
pub record HasPlace (v : View) : Type 0 where
  pub room : length v.list < 4096
  pub seat : StandsNot v.list v.who
  pub stamp : IsNewStamp v.list v.stamp

abbrev pub joining : Sight → ℕ → Owner → Sight
joining v n o = knowing v (queued v.part.core n o)

abbrev pub joins : ℕ → Owner → Sat → Sat → Type 0
joins n o m m' = (m' ≡ (joining m.0 n o, m.1)) × HasPlace m.0.part.core

-- ---- take: the lock is the seat's, and its node comes, which the view names; the wait list stays the slot taken last

abbrev pub taking_inside : Sight → ℕ → Node → Sight
taking_inside v n x = record v { part = record (v.part) { core = taken v.part.core n }; held = slice_set v.held n (Some x) }

-- a slot more is out, below the one taken last
abbrev pub under_top : ℕ × Cell → List (ℕ × Cell) → List (ℕ × Cell)
under_top x [] = x ∷ []
under_top x (y ∷ ys) = y ∷ x ∷ ys

abbrev pub takes_inside : ℕ → Owner → Sat → Sat → Type 0
takes_inside n o m m' = (x : Node) × IsNodeOf (length m.0.held) x
    × (m' ≡ (taking_inside m.0 n x, under_top (n, Content x) m.1)) × StandsIfWaiting m.0.part.core

-- ---- give: the lock is nobody's, or the first waiter's if that was asked for, and its node goes home

-- the slots of this number have y
abbrev pub HaveOnly : ℕ → Cell → List (ℕ × Cell) → Type 0
HaveOnly n y [] = Unit {0}
HaveOnly n y (x ∷ xs) = (x.0 ≡ n → x.1 ≡ y) × HaveOnly n y xs

-- the slot is out and has y, and no other slot has its number
pub record IsOut (slots : List (ℕ × Cell)) (n : ℕ) (y : Cell) : Type 0 where
  pub there : slot_of slots n ≡ Some y
  pub only : HaveOnly n y slots

abbrev pub giving_inside : Sight → ℕ → Bool → Sight
giving_inside v n asked = record v { part = record (v.part) { core = given v.part.core n asked }; held = slice_set v.held n None }

abbrev pub gives_inside : ℕ → Owner → Sat → Sat → Type 0
gives_inside n o m m' = m' ≡ (giving_inside m.0 n (o.flags == 3), rest m.1)

-- ---- the same of a lock that guards no node

abbrev pub takes_bare_inside : ℕ → Owner → Sat → Sat → Type 0
takes_bare_inside n o m m' = (m' ≡ (knowing m.0 (taken m.0.part.core n), m.1)) × StandsIfWaiting m.0.part.core

abbrev pub gives_bare_inside : ℕ → Owner → Sat → Sat → Type 0
gives_bare_inside n o m m' = m' ≡ (knowing m.0 (given m.0.part.core n (o.flags == 3)), m.1)

-- ---- ask: the next to release the lock hands it over

abbrev pub asking : Sight → Owner → Sight
asking v o = knowing v (has_asked v.part.core o)

abbrev pub asks : ℕ → Owner → Sat → Sat → Type 0
asks n o m m' = m' ≡ (asking m.0 o, m.1)

-- ---- die: out of the wait list

abbrev pub dying : Sight → Owner → Sight
dying v o = knowing v (died v.part.core o)

abbrev pub dies : ℕ → Owner → Sat → Sat → Type 0
dies n o m m' = (m' ≡ (dying m.0 o, m.1)) × StandsIfWaiting m.0.part.core

-- a waiter that has to die, whatever the word is now, has to for an older context
abbrev pub dies_to : Step Cell → Sat → ℕ → Sat → Type 0
dies_to st m found m' = tries_to dies st m found m' × ((n : ℕ) (o : Owner) (k : ℕ) → MayDie m.0.part.core n o k → k < m.0.part.core.stamp)
