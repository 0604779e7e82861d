-- Each step at a guard and inside it: what it requires of its seat, and what came of it.
use Rattle.std.specs.Prelude.{ℕ, ◌≡◌, ◌≢◌, ◌<◌, ◌≤◌, ◌==◌, ◌++◌, ◌∷◌, Bool, true, false, List, [], length, slice_get, Option, Some, IfSome, IfNone}
use mathlib.Core.Option.{some}
use lib.ListN.{get_elem?}
use Rattle.atomic_table.specs.Seated.{TableId}
use Rattle.ww_word.specs.declared.owner.Owner.{Owner}
use Rattle.ww_word.specs.Owner.{is_handed}
use Rattle.ww_word.specs.AnySeats.{IsValid}
use Rattle.ww_queue.specs.declared.entry.Entry.{Entry}
use Rattle.ww_queue.specs.Queue.{left}
use Rattle.ww_queue.specs.Rules.{must_die}
use Rattle.ww_queue.specs.AnySeats.{signs_past}
use Rattle.ww_model.specs.State.{any_below, waiting}
use Rattle.ww_plain.specs.declared.node.Node.{Node}
use Rattle.ww_plain.specs.Graph.{IsNodeOf}
use Rattle.ww_view.specs.View.{owns}
use Rattle.ww_view.specs.May.{MayAsk, MayDie, MayEnter, MayGive, MayJoin, MayLeave, MayStop, MayTake}
use Rattle.ww_view.specs.Made as made
use Rattle.ww_invariant.specs.declared.cells.Cell.{Cell}
use Rattle.ww_invariant.specs.declared.cells.Cell.TheVariants.{Content, Line}
use Rattle.ww_invariant.specs.declared.cells.Sight.{Sight}
use Rattle.ww_invariant.specs.Layout.{list_at}
use Rattle.ww_invariant.specs.Rule.{Sat}
use Rattle.ww_invariant.specs.Out.{AreOthers, numbers_of, slot_of}
use Rattle.ww_invariant.specs.Guards.{AreSeats, StandsAs, shutting_out, entering, exiting, looking}
use Rattle.ww_invariant.specs.Guards as guards
use Rattle.ww_invariant.specs.Steps.{knowing}
use Rattle.ww_invariant.specs.Waiting.{HasListOnTop, IsOut, joining, taking_inside, giving_inside, asking}
use Rattle.ww_table.specs.declared.board.Board.{Board}
use Rattle.ww_table.specs.declared.seat.Stepper.{Stepper}
use Rattle.ww_table.specs.Seat.{IsSeated, IsSeatOf, locks_of, size_of, view_of}

-- ---- into a guard and out of it

-- there is a lock n whose guard the view allows to enter, and one slot more may be out
pub record MayEnterAt (b : Board) (n : ℕ) (s : Stepper) : Type 0 where
  pub lock : n < locks_of b
  pub may : MayEnter (view_of s) n
  pub room : length s.seat.me.1 < 65

-- it is inside the guard of lock n, and the wait list is out; or another is inside
pub record HasTriedToEnter (b : Board) (s : Stepper) (n : ℕ) (won : Bool) (s' : Stepper) : Type 0 where
  pub seat : IsSeatOf b s'
  pub records : s'.records ≡ s.records
  pub entered : won ≡ true → (q : List Entry) × AreSeats (view_of s).seats q × StandsAs (view_of s) n q
      × (s'.seat.me ≡ (entering s.seat.me.0 n q, (list_at n, Line q) ∷ s.seat.me.1))
  pub lost : won ≡ false → s'.seat.me ≡ (shutting_out s.seat.me.0, s.seat.me.1)

-- the wait list of lock n is out, as the view has it
abbrev pub HasListOut : ℕ → Stepper → Type 0
HasListOut n s = slot_of s.seat.me.1 (list_at n) ≡ Some (Line (view_of s).list)

-- there is a lock n whose guard the view allows to leave, and its wait list is out
pub record MayExitAt (b : Board) (n : ℕ) (s : Stepper) : Type 0 where
  pub lock : n < locks_of b
  pub may : MayLeave (view_of s) n
  pub list : HasListOut n s

-- it is outside, and the wait list of lock n at home
pub record HasExited (b : Board) (s : Stepper) (n : ℕ) (s' : Stepper) : Type 0 where
  pub seat : IsSeatOf b s'
  pub records : s'.records ≡ s.records
  pub view : s'.seat.me.0 ≡ exiting s.seat.me.0
  pub home : AreOthers s.seat.me.1 (list_at n) (Line (view_of s).list) s'.seat.me.1

-- ---- what a word tells

-- inside the guard of lock n: its owner is one of the seats, and this seat only if it owns the lock or that was handed to it;
-- and a flag is set if somebody waits
pub record HasSeen (b : Board) (s : Stepper) (n : ℕ) (o : Owner) (s' : Stepper) : Type 0 where
  pub seat : IsSeatOf b s'
  pub records : s'.records ≡ s.records
  pub looked : s'.seat.me ≡ (looking s.seat.me.0 o, s.seat.me.1)
  pub valid : IsValid o
  pub there : (u : ℕ) → o.seat ≡ Some u → u < (view_of s).seats
  pub own : owns (view_of s) n ≡ false → o.seat ≡ Some (view_of s).who → is_handed o ≡ true
  pub flags : (view_of s).list ≢ [] → o.flags ≢ 0

-- ---- what the wait list tells

-- there is a lock n, and its wait list is out
pub record MayReadList (b : Board) (n : ℕ) (s : Stepper) : Type 0 where
  pub lock : n < locks_of b
  pub list : HasListOut n s

-- for which stamp the seat has to die
pub record HasReadDeath (b : Board) (s : Stepper) (n : ℕ) (o : Owner) (sign : ℕ) (met : Option ℕ) (s' : Stepper) : Type 0 where
  pub seat : IsSeatOf b s'
  pub read : HasListOnTop s.seat.me n s'.seat.me
  pub death : met ≡ must_die s.kind o (view_of s).list s.who sign
  pub records : s'.records ≡ s.records

-- to whom it owes a sign, of the waiters from a place on: all of these, or some, and from which place on there are more
pub record HasReadDebts (b : Board) (s : Stepper) (n : ℕ) (o : Owner) (place : ℕ) (owed : List (ℕ × ℕ)) (more : Option ℕ)
    (s' : Stepper) : Type 0 where
  pub seat : IsSeatOf b s'
  pub read : HasListOnTop s.seat.me n s'.seat.me
  pub all : IfNone more (owed ≡ signs_past s.kind o (view_of s).list s.who place)
  pub some : IfSome more (λ next. owed ++ signs_past s.kind o (view_of s).list s.who next
      ≡ signs_past s.kind o (view_of s).list s.who place)
  pub further : IfSome more (λ next. (place < next) × (next ≤ length (view_of s).list))
  pub records : s'.records ≡ s.records

-- who is the first waiter
pub record HasReadFirst (b : Board) (s : Stepper) (n : ℕ) (entry : Option Entry) (s' : Stepper) : Type 0 where
  pub seat : IsSeatOf b s'
  pub read : HasListOnTop s.seat.me n s'.seat.me
  pub first : entry ≡ slice_get (view_of s).list 0
  pub records : s'.records ≡ s.records

-- the numbers of its slots are kept in their order, and the list of lock n is one of these
pub record MayBringList (n : ℕ) (s : Stepper) : Type 0 where
  pub lock : n < 16777216
  pub order : s.order.items ≡ numbers_of s.seat.me.1
  pub list : HasListOut n s

-- the list is the slot taken last, of this number
pub record HasBroughtList (s : Stepper) (n k : ℕ) (s' : Stepper) : Type 0 where
  pub slot : k ≡ list_at n
  pub same : s' ≡ record s { seat = s'.seat; order = s'.order }
  pub seat : (t : TableId) → IsSeated t s → IsSeated t s'
  pub read : HasListOnTop s.seat.me n s'.seat.me

-- the flag of the waiters that are left once it has gone
pub record HasReadFlag (b : Board) (s : Stepper) (n k : ℕ) (s' : Stepper) : Type 0 where
  pub seat : IsSeatOf b s'
  pub read : HasListOnTop s.seat.me n s'.seat.me
  pub flag : k ≡ waiting (left (view_of s).list (view_of s).who)
  pub same : s' ≡ record s { seat = s'.seat; order = s'.order }

-- the owner word of this owner is the one to write: this is what each of three steps has for it
pub record HasReadOwner (b : Board) (s : Stepper) (n : ℕ) (word o : Owner) (s' : Stepper) : Type 0 where
  pub seat : IsSeatOf b s'
  pub read : HasListOnTop s.seat.me n s'.seat.me
  pub owner : o ≡ word
  pub same : s' ≡ record s { seat = s'.seat; order = s'.order }

-- ... which has such a word
pub record HasReadValid (b : Board) (s : Stepper) (n : ℕ) (word o : Owner) (s' : Stepper) : Type 0 where
  pub seat : IsSeatOf b s'
  pub read : HasListOnTop s.seat.me n s'.seat.me
  pub owner : o ≡ word
  pub valid : IsValid o
  pub same : s' ≡ record s { seat = s'.seat; order = s'.order }

-- ---- the steps on an owner word

-- The word of owner o was the one expected if the seat saw that last and somebody waits, since nobody else writes it then.
abbrev pub IsSure : Stepper → Owner → Bool → Type 0
IsSure s o won = (view_of s).list ≢ [] → (view_of s).seen ≡ Some o → won ≡ true

-- it knows w then, and the wait list of lock n, the slot taken last, is q; the others are those that it had
abbrev pub HasListThen : Sat → ℕ → Sight → List Entry → Sat → Type 0
HasListThen m n w q m' = (others : List (ℕ × Cell)) × AreOthers m.1 (list_at n) (Line m.0.part.core.list) others
    × (m' ≡ (w, (list_at n, Line q) ∷ others))

-- another word was found: it has only made a step
abbrev pub HasOnlyTried : Sat → ℕ → Sat → Type 0
HasOnlyTried m n m' = HasListThen m n (guards.lost m.0) m.0.part.core.list m'

-- there is a lock n that the view allows to wait for, by the owner that was seen; its wait list is out; and some says whether
-- the seat holds a lock
pub record MayJoinAt (b : Board) (n : ℕ) (o : Owner) (some : Bool) (s : Stepper) : Type 0 where
  pub lock : n < locks_of b
  pub may : MayJoin (view_of s) n o
  pub valid : IsValid o
  pub list : HasListOut n s
  pub holds : any_below (length (view_of s).owned) (owns (view_of s)) ≡ some

-- it stands in the wait list
pub record HasTriedToJoin (b : Board) (s : Stepper) (n : ℕ) (o : Owner) (won : Bool) (s' : Stepper) : Type 0 where
  pub seat : IsSeatOf b s'
  pub records : s'.records ≡ s.records
  pub sure : IsSure s o won
  pub joined : won ≡ true → HasListThen s.seat.me n (joining s.seat.me.0 n o) (made.queued (view_of s) n o).list s'.seat.me
  pub lost : won ≡ false → s'.seat.me ≡ (guards.lost s.seat.me.0, s.seat.me.1)

-- there is a lock n that the view allows to ask for, by the owner that was seen
pub record MayAskAt (b : Board) (n : ℕ) (o : Owner) (s : Stepper) : Type 0 where
  pub lock : n < locks_of b
  pub may : MayAsk (view_of s) n o
  pub valid : IsValid o

-- the owner is asked to hand the lock over
pub record HasTriedToAsk (b : Board) (s : Stepper) (o : Owner) (won : Bool) (s' : Stepper) : Type 0 where
  pub seat : IsSeatOf b s'
  pub records : s'.records ≡ s.records
  pub sure : IsSure s o won
  pub asked : won ≡ true → s'.seat.me ≡ (asking s.seat.me.0 o, s.seat.me.1)
  pub lost : won ≡ false → s'.seat.me ≡ (guards.lost s.seat.me.0, s.seat.me.1)

-- lock n guards a node, and the view allows to take it, by the owner that was seen; its wait list is out, and one slot more may
-- be out
pub record MayTakeAt (b : Board) (n : ℕ) (o : Owner) (s : Stepper) : Type 0 where
  pub lock : n < size_of b
  pub may : MayTake (view_of s) n o
  pub valid : IsValid o
  pub list : HasListOut n s
  pub room : length s.seat.me.1 < 65

-- it has the lock, and is out of the wait list; the node is out, below that list
pub record HasTriedToTakeInside (b : Board) (s : Stepper) (n : ℕ) (o : Owner) (won : Bool) (s' : Stepper) : Type 0 where
  pub seat : IsSeatOf b s'
  pub records : s'.records ≡ s.records
  pub sure : IsSure s o won
  pub took : won ≡ true → (x : Node) × (others : List (ℕ × Cell)) × IsNodeOf (length s.seat.me.0.held) x
      × AreOthers s.seat.me.1 (list_at n) (Line (view_of s).list) others
      × (s'.seat.me ≡ (taking_inside s.seat.me.0 n x, (list_at n, Line (made.taken (view_of s) n).list) ∷ (n, Content x) ∷ others))
  pub lost : won ≡ false → HasOnlyTried s.seat.me n s'.seat.me

-- lock n guards no node, and the view allows to take it, by the owner that was seen; its wait list is out
pub record MayTakeBareAt (b : Board) (n : ℕ) (o : Owner) (s : Stepper) : Type 0 where
  pub lock : (size_of b ≤ n) × (n < locks_of b)
  pub may : MayTake (view_of s) n o
  pub valid : IsValid o
  pub list : HasListOut n s

-- there is a lock n in whose wait list the seat has to die, by its view and the owner that was seen; the list is out
pub record MayDieAt (b : Board) (n : ℕ) (o : Owner) (s : Stepper) : Type 0 where
  pub lock : n < locks_of b
  pub may : (k : ℕ) × MayDie (view_of s) n o k
  pub valid : IsValid o
  pub list : HasListOut n s

-- there is a lock n whose wait list the view allows to leave for the cancel that was heeded; the list is out
pub record MayLeaveAt (b : Board) (n : ℕ) (o : Owner) (s : Stepper) : Type 0 where
  pub lock : n < locks_of b
  pub may : MayStop (view_of s) n
  pub valid : IsValid o
  pub list : HasListOut n s

-- one try to leave the wait list of lock n by a step that makes w of what the seat knows
pub record HasTriedToGo (b : Board) (s : Stepper) (n : ℕ) (o : Owner) (w : Sight) (won : Bool) (s' : Stepper) : Type 0 where
  pub seat : IsSeatOf b s'
  pub records : s'.records ≡ s.records
  pub sure : IsSure s o won
  pub gone : won ≡ true → HasListThen s.seat.me n w w.part.core.list s'.seat.me
  pub lost : won ≡ false → HasOnlyTried s.seat.me n s'.seat.me

-- lock n guards a node, which is out, and is the seat's, which saw its word last; the wait list is out, and each waiter is a seat
pub record MayGiveAt (b : Board) (n : ℕ) (o : Owner) (s : Stepper) : Type 0 where
  pub lock : n < size_of b
  pub may : MayGive (view_of s) n
  pub valid : IsValid o
  pub seen : (view_of s).seen ≡ Some o
  pub list : HasListOut n s
  pub waiters : AreSeats (view_of s).seats (view_of s).list
  pub out : (x : Node) × IsOut s.seat.me.1 n (Content x) × (get_elem? s.seat.me.0.held n ≡ some (Some x))

-- the lock is free, or the first waiter's if that was asked for; its node is at home, and the list the slot taken last
pub record HasGivenInside (b : Board) (s : Stepper) (n : ℕ) (o : Owner) (s' : Stepper) : Type 0 where
  pub seat : IsSeatOf b s'
  pub records : s'.records ≡ s.records
  pub gave : (x : Node) × (others : List (ℕ × Cell)) × (s'.seat.me.0 ≡ giving_inside s.seat.me.0 n (o.flags == 3))
      × AreOthers s.seat.me.1 (list_at n) (Line (view_of s).list) others
      × AreOthers ((list_at n, Line (view_of s).list) ∷ others) n (Content x) s'.seat.me.1

-- lock n guards no node, and is the seat's, which saw its word last; the wait list is out, and each waiter is a seat
pub record MayGiveBareAt (b : Board) (n : ℕ) (o : Owner) (s : Stepper) : Type 0 where
  pub lock : (size_of b ≤ n) × (n < locks_of b)
  pub may : MayGive (view_of s) n
  pub valid : IsValid o
  pub seen : (view_of s).seen ≡ Some o
  pub list : HasListOut n s
  pub waiters : AreSeats (view_of s).seats (view_of s).list

pub record HasGivenBareInside (b : Board) (s : Stepper) (n : ℕ) (o : Owner) (s' : Stepper) : Type 0 where
  pub seat : IsSeatOf b s'
  pub records : s'.records ≡ s.records
  pub gave : HasListThen s.seat.me n (knowing s.seat.me.0 (made.given (view_of s) n (o.flags == 3))) (view_of s).list s'.seat.me
