-- When a seat leaves a guard in order to sleep, as its view tells from some time to a later one.
use Rattle.std.specs.Prelude.{ℕ, ◌≡◌, ◌≢◌, ◌+◌, Bool, true, false, List, [], ◌∷◌, ◌++◌, Option, Some}
use mathlib.Core.Option.{some}
use lib.ListN.{get_elem?}
use Rattle.ww_view.specs.declared.view.View.{View}
use Rattle.ww_invariant.specs.declared.cells.Sight.{Sight}
use Rattle.ww_invariant.specs.declared.cells.Start.{Start}
use Rattle.ww_invariant.specs.Rule.{St, Sat}
use Rattle.ww_laws.specs.Scene.{Step, performs, leaves_to_sleep}
use Rattle.ww_refines.specs.Moment.{HasLeftToWait}
use Rattle.ww_refines.specs.Tables.{NotesWhatStands, TableMoment, moment_of}
use Rattle.ww_refines.specs.Moves.{Reads}
use Rattle.ww_refines.specs.Plays.{Plays}

-- a play of a seat, of which the view was v and is v' then
pub record IsPlayOf (key : Start) (v : View) (x : Option Step) (v' : View) : Type 0 where
  pub moment : TableMoment key
  pub id : ℕ
  pub me : Sat
  pub here : get_elem? moment.table.views id ≡ some me.0
  pub before : me.0.part.core ≡ v
  pub table : St
  pub plays : Plays moment id me x table
  pub sight : Sight
  pub there : get_elem? table.views id ≡ some sight
  pub after : sight.part.core ≡ v'

-- plays of one seat, one after the other, whatever others do meanwhile
pub data ArePlaysOf (key : Start) : View → List (Option Step) → View → Type 0 where
  no_more : (v : View) → ArePlaysOf key v [] v
  one_more : (u v w : View) (x : Option Step) (xs : List (Option Step)) → IsPlayOf key u x v → ArePlaysOf key v xs w →
      ArePlaysOf key u (x ∷ xs) w

-- it is that the seat leaves a guard in order to sleep
abbrev pub is_to_sleep : Option Step → Bool
is_to_sleep (Some (leaves_to_sleep s n heeds)) = true
is_to_sleep _ = false

-- it is an event of the locks
abbrev pub is_event : Option Step → Bool
is_event (Some (performs e)) = true
is_event (Some (leaves_to_sleep s n heeds)) = true
is_event _ = false

-- none of these is such a one
abbrev pub HaveNone : (Option Step → Bool) → List (Option Step) → Type 0
HaveNone is [] = Unit {0}
HaveNone is (x ∷ xs) = (is x ≡ false) × HaveNone is xs

-- one of them is that the seat leaves a guard in order to sleep, and none after it is an event
pub record SleepsLast (xs : List (Option Step)) : Type 0 where
  pub before : List (Option Step)
  pub exit : Option Step
  pub after : List (Option Step)
  pub all : xs ≡ before ++ exit ∷ after
  pub awake : HaveNone is_to_sleep before
  pub sleeps : is_to_sleep exit ≡ true
  pub no_event : HaveNone is_event after

-- the seat is outside the guards, and waits
abbrev pub WaitsOutside : View → Type 0
WaitsOutside v = (v.inside ≡ 0) × (v.waits ≢ 0)

-- Whatever a seat does while its count of such exits stays, it makes none. Whatever it does until that is one more and it waits
-- outside, it makes one, and after that no event.
pub record NapsAreLast : Type 0 where
  pub none : (key : Start) (v v' : View) (xs : List (Option Step)) → ArePlaysOf key v xs v' → v'.naps ≡ v.naps →
      HaveNone is_to_sleep xs
  pub last : (key : Start) (v v' : View) (xs : List (Option Step)) → ArePlaysOf key v xs v' → v'.naps ≡ v.naps + 1 →
      WaitsOutside v' → SleepsLast xs

-- ---- what it reads then

-- the seat of this view left a guard as a waiter, is about to fall asleep, and outside the guards
pub record IsDueOutside {key : Start} (m : TableMoment key) (v : View) : Type 0 where
  pub rests : HasLeftToWait (moment_of m) v.who false
  pub outside : v.inside ≡ 0

-- a moment follows by a read of seat t, in which the table is this
pub record ReadsOn {key : Start} (m : TableMoment key) (t : ℕ) (s : St) : Type 0 where
  pub moment : TableMoment key
  pub table : moment.table ≡ s
  pub reads : Reads (moment_of m) (moment_of moment) t
  pub notes : NotesWhatStands key m.ruled.core (m.part t).core (moment.part t).core

-- each play of such a seat that is no event is a read
abbrev pub ReadsAreMoves : Type 0
ReadsAreMoves = (key : Start) (m : TableMoment key) (id : ℕ) (me : Sat) (x : Option Step) (s : St) →
    get_elem? m.table.views id ≡ some me.0 → me.0.seated ≡ true → IsDueOutside m me.0.part.core → is_event x ≡ false →
    Plays m id me x s → ReadsOn m me.0.part.core.who s
