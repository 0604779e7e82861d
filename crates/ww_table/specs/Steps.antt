-- Each step outside all guards: what it requires of its seat, and what came of it.
use Rattle.std.specs.Prelude.{ℕ, ◌≡◌, ◌<◌, ◌≤◌, ◌≢◌, ◌^◌, ◌∷◌, Bool, true, false, List, length, Option, Some, IfSome, IfNone, IsSome, vec_capacity}
use Rattle.std.specs.List.{AllByRecursion}
use mathlib.Core.Option.{some}
use lib.ListN.{get_elem?}
use Rattle.ww_word.specs.declared.owner.Owner.{Owner}
use Rattle.ww_word.specs.AnySeats.{IsValid, packed}
use Rattle.ww_plain.specs.declared.node.Node.{Node}
use Rattle.ww_plain.specs.declared.history.Record.{Record}
use Rattle.ww_plain.specs.Graph.{IsNodeOf}
use Rattle.ww_view.specs.View.{owns, IsAway, IsQuiet}
use Rattle.ww_view.specs.View as view
use Rattle.ww_view.specs.May.{MayFast}
use Rattle.ww_view.specs.Made.{fast_missed, has_read}
use Rattle.ww_view.specs.Made as made
use Rattle.ww_invariant.specs.declared.cells.Cell.{Cell}
use Rattle.ww_invariant.specs.declared.cells.Cell.TheVariants.{Content}
use Rattle.ww_invariant.specs.declared.cells.Sight.{Sight}
use Rattle.ww_invariant.specs.Rule.{Sat}
use Rattle.ww_invariant.specs.Out.{AreOthers, slot_of}
use Rattle.ww_invariant.specs.Steps.{knowing, drawing, drawing_none, taking, giving, keeping, placing, seeing, IsToldBy}
use Rattle.ww_invariant.specs.Signs.{having_read, finding_none}
use Rattle.ww_invariant.specs.Cancels.{finding_uncancelled, heeding}
use Rattle.ww_table.specs.declared.board.Board.{Board}
use Rattle.ww_table.specs.declared.seat.Stepper.{Stepper}
use Rattle.ww_table.specs.declared.seat.Taking.{Taking}
use Rattle.ww_table.specs.declared.seat.Giving.{Giving}
use Rattle.ww_table.specs.Seat.{HasTriedToGive, HasTriedToTake, IsSeatOf, locks_of, size_of, view_of}

-- ---- a step that leaves the slots that are out

-- the step made w of what the seat knows; its records and the slots that are out are the same
pub record HasStepped (b : Board) (s : Stepper) (w : Sight) (s' : Stepper) : Type 0 where
  pub seat : IsSeatOf b s'
  pub records : s'.records ≡ s.records
  pub now : s'.seat.me ≡ (w, s.seat.me.1)

-- the step made w of what the seat knows where it won, else vain; its records and the slots that are out are the same
pub record IsEither (b : Board) (s : Stepper) (w vain : Sight) (won : Bool) (s' : Stepper) : Type 0 where
  pub seat : IsSeatOf b s'
  pub records : s'.records ≡ s.records
  pub hit : won ≡ true → s'.seat.me ≡ (w, s.seat.me.1)
  pub miss : won ≡ false → s'.seat.me ≡ (vain, s.seat.me.1)

-- ---- contexts

-- a context of this stamp began; or all stamps are spent, which those of 16 seats never are
pub record HasDrawn (b : Board) (s : Stepper) (drawn : Option ℕ) (s' : Stepper) : Type 0 where
  pub seat : IsSeatOf b s'
  pub records : s'.records ≡ s.records
  pub drew : IfSome drawn (λ stamp. s'.seat.me ≡ (drawing s.seat.me.0 stamp, s.seat.me.1))
  pub spent : IfNone drawn (s'.seat.me ≡ (drawing_none s.seat.me.0, s.seat.me.1))
  pub context : IfSome drawn (λ stamp. 0 < stamp)
  pub few : s.seats ≡ 16 → IsSome drawn

-- the context is at its end; or its own sign was found, which the view names from then on
pub record HasTriedToEnd (b : Board) (s : Stepper) (done : Bool) (s' : Stepper) : Type 0 where
  pub seat : IsSeatOf b s'
  pub records : s'.records ≡ s.records
  pub ended : done ≡ true → s'.seat.me ≡ (knowing s.seat.me.0 (made.ended (view_of s)), s.seat.me.1)
  pub signed : done ≡ false → (k : ℕ) × (0 < k) × (s'.seat.me ≡ (knowing s.seat.me.0 (has_read (view_of s) k), s.seat.me.1))
  pub known : (k : ℕ) → (view_of s).sign ≡ Some k → 0 < k → done ≡ false
  pub unsigned : (view_of s).sign ≡ Some 0 → done ≡ true

-- ---- one try at a lock

-- lock n guards a node, the view allows to want it, and one slot more may be out
pub record MayTakeFree (b : Board) (n : ℕ) (s : Stepper) : Type 0 where
  pub lock : n < size_of b
  pub may : MayFast (view_of s)
  pub room : length s.seat.me.1 < 65

-- it has the lock, and the node is out; or it has only tried
pub record HasTriedToTakeFree (b : Board) (s : Stepper) (n : ℕ) (won : Bool) (s' : Stepper) : Type 0 where
  pub seat : IsSeatOf b s'
  pub records : s'.records ≡ s.records
  pub took : won ≡ true → (x : Node) × IsNodeOf (length s.seat.me.0.held) x
      × (s'.seat.me ≡ (taking s.seat.me.0 n x, (n, Content x) ∷ s.seat.me.1))
  pub lost : won ≡ false → s'.seat.me ≡ (knowing s.seat.me.0 (fast_missed (view_of s)), s.seat.me.1)

-- lock n guards a node, is the seat's, and its node is out as the view names it
pub record MayGiveFree (b : Board) (n : ℕ) (s : Stepper) : Type 0 where
  pub lock : n < size_of b
  pub away : IsAway (view_of s)
  pub owner : owns (view_of s) n ≡ true
  pub out : (x : Node) × (slot_of s.seat.me.1 n ≡ Some (Content x)) × (get_elem? s.seat.me.0.held n ≡ some (Some x))

-- the lock is free, and its node at home; or somebody may wait for it, so it is kept, and its node is the slot taken last
pub record HasTriedToGiveFree (b : Board) (s : Stepper) (n : ℕ) (done : Bool) (s' : Stepper) : Type 0 where
  pub seat : IsSeatOf b s'
  pub records : s'.records ≡ s.records
  pub gave : done ≡ true → (x : Node) × (s'.seat.me.0 ≡ giving s.seat.me.0 n)
      × AreOthers s.seat.me.1 n (Content x) s'.seat.me.1
  pub kept : done ≡ false → (x : Node) × (others : List (ℕ × Cell)) × AreOthers s.seat.me.1 n (Content x) others
      × (s'.seat.me ≡ (keeping s.seat.me.0, (n, Content x) ∷ others))

-- lock n guards no node; the owner words of the board's locks lie close together
pub record IsBareLock (b : Board) (n : ℕ) : Type 0 where
  pub bare : size_of b ≤ n
  pub lock : n < locks_of b
  pub packed : 64 < locks_of b

-- what a try to take such a lock came to
pub record HasTriedToTakeBare (b : Board) (s : Stepper) (n : ℕ) (came : Taking) (s' : Stepper) : Type 0 where
  pub seat : IsSeatOf b s'
  pub records : s'.records ≡ s.records
  pub tried : HasTriedToTake s.seat.me n came s'.seat.me

-- ... and one to release it
pub record HasTriedToGiveBare (b : Board) (s : Stepper) (n : ℕ) (came : Giving) (s' : Stepper) : Type 0 where
  pub seat : IsSeatOf b s'
  pub records : s'.records ≡ s.records
  pub tried : HasTriedToGive s.seat.me n came s'.seat.me

-- it is told whether it owns the lock, and nothing has changed
pub record HasAskedWhoOwns (b : Board) (s : Stepper) (n : ℕ) (owner : Bool) (s' : Stepper) : Type 0 where
  pub seat : IsSeatOf b s'
  pub same : s' ≡ record s { seat = s'.seat }
  pub me : s'.seat.me ≡ s.seat.me
  pub owns : owner ≡ view.owns (view_of s) n

-- It is told whether the number that it found in the lock's word is 0: its view says what it found, and nothing else has changed.
-- That number told whether it owns the lock, if it is away; and 0 tells that it doesn't.
pub record HasAskedIfFree (b : Board) (s : Stepper) (n : ℕ) (answer : Bool) (s' : Stepper) : Type 0 where
  pub seat : IsSeatOf b s'
  pub same : s' ≡ record s { seat = s'.seat }
  pub free : answer ≡ true → s'.seat.me ≡ (seeing s.seat.me.0 n 0, s.seat.me.1)
  pub taken : answer ≡ false → (found : ℕ) × (found ≢ 0) × (s'.seat.me ≡ (seeing s.seat.me.0 n found, s.seat.me.1))
  pub word : (found : ℕ) × (s'.seat.me ≡ (seeing s.seat.me.0 n found, s.seat.me.1)) × (IsAway (view_of s) → IsToldBy (view_of s) n found)
  pub lacks : answer ≡ true → view.owns (view_of s) n ≡ false

-- It is told whose the lock was by the number that it found in the lock's word, which its view says; and nothing else has changed.
pub record HasAskedWhose (b : Board) (s : Stepper) (n : ℕ) (o : Owner) (s' : Stepper) : Type 0 where
  pub seat : IsSeatOf b s'
  pub same : s' ≡ record s { seat = s'.seat }
  pub me : s'.seat.me ≡ (seeing s.seat.me.0 n (packed o), s.seat.me.1)
  pub valid : IsValid o

-- ---- nodes that are out

-- the node of lock n was x, and is y now, in the slot taken last
pub record HasSwapped (b : Board) (s : Stepper) (n : ℕ) (y x : Node) (s' : Stepper) : Type 0 where
  pub seat : IsSeatOf b s'
  pub records : s'.records ≡ s.records
  pub swapped : (others : List (ℕ × Cell)) × AreOthers s.seat.me.1 n (Content x) others
      × (s'.seat.me ≡ (s.seat.me.0, (n, Content y) ∷ others))

-- the node of lock n was the slot taken last, and is it still
pub record HasReadTop (b : Board) (s : Stepper) (n : ℕ) (x : Node) (s' : Stepper) : Type 0 where
  pub seat : IsSeatOf b s'
  pub records : s'.records ≡ s.records
  pub read : (others : List (ℕ × Cell)) × (s.seat.me.1 ≡ (n, Content x) ∷ others)
      × (s'.seat.me ≡ (s.seat.me.0, (n, Content x) ∷ others))

-- ---- commits

-- the record takes this place, above those that the seat has
pub record HasPlaced (b : Board) (s : Stepper) (done : Record) (place : ℕ) (s' : Stepper) : Type 0 where
  pub seat : IsSeatOf b s'
  pub placed : s'.seat.me ≡ (placing s.seat.me.0 place done, s.seat.me.1)
  pub above : AllByRecursion (λ p. p.0 < place) s.seat.me.0.part.own
  pub capacity : vec_capacity s'.records ≡ vec_capacity s.records

-- ... which is one that the program can count
pub record HasItsPlace (m : Sat) (done : Record) (place : ℕ) (m' : Sat) : Type 0 where
  pub placed : m' ≡ (placing m.0 place done, m.1)
  pub above : AllByRecursion (λ p. p.0 < place) m.0.part.own
  pub few : place < 2 ^ 44

-- ---- signs and cancels

-- What the own sign says. Any but 0 stays; so does 0 while nobody may sign the seat.
pub record HasReadSign (b : Board) (s : Stepper) (sign : ℕ) (s' : Stepper) : Type 0 where
  pub seat : IsSeatOf b s'
  pub records : s'.records ≡ s.records
  pub signed : sign ≢ 0 → s'.seat.me ≡ (having_read s.seat.me.0 sign, s.seat.me.1)
  pub quiet : sign ≡ 0 → IsQuiet (view_of s) → s'.seat.me ≡ (having_read s.seat.me.0 0, s.seat.me.1)
  pub unsigned : sign ≡ 0 → ¬ IsQuiet (view_of s) → s'.seat.me ≡ (finding_none s.seat.me.0, s.seat.me.1)

-- The own cancel is 0. It was 0; or this mark of the seat that had set it, whose number is one less.
pub record HasHeeded (b : Board) (s : Stepper) (mark : ℕ) (s' : Stepper) : Type 0 where
  pub seat : IsSeatOf b s'
  pub records : s'.records ≡ s.records
  pub few : mark ≤ (view_of s).seats
  pub none : mark ≡ 0 → s'.seat.me ≡ (finding_uncancelled s.seat.me.0, s.seat.me.1)
  pub heeded : mark ≢ 0 → s'.seat.me ≡ (heeding s.seat.me.0 mark, s.seat.me.1)
