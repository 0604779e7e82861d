-- A seat at work inside the guard of a lock that it wants.
use Rattle.std.specs.Prelude.{ℕ, suc, ◌≡◌, ◌≢◌, ◌<◌, ◌≤◌, ◌*◌, ◌==◌, ◌⊎◌, not, Bool, true, false, List, [], ◌∷◌, length, Option, Some, None, IfSome, IfNone}
use mathlib.Core.Option.{some}
use lib.ListN.{get_elem?}
use Rattle.ww_word.specs.declared.owner.Owner.{Owner}
use Rattle.ww_word.specs.AnySeats.{IsValid}
use Rattle.ww_word.specs.Owner.{is_handed}
use Rattle.ww_queue.specs.declared.kind.Kind.TheVariants.{WoundWait, WaitDie}
use Rattle.ww_queue.specs.Queue.{Has, Once, StandsNot, entry_of}
use Rattle.ww_queue.specs.Rules.{must_die, owed_signs}
use Rattle.ww_plain.specs.declared.node.Node.{Node}
use Rattle.ww_plain.specs.Graph.{IsNodeOf}
use Rattle.ww_view.specs.declared.view.View.{View}
use Rattle.ww_view.specs.Word.{TellsOther, taken_word}
use Rattle.ww_view.specs.View.{owns}
use Rattle.ww_view.specs.May.{WantsSigns, LivesBySeen, HasPaid, NothingToAsk, MayDie}
use Rattle.ww_view.specs.Made.{entry_of_view, with_condemned}
use Rattle.ww_invariant.specs.Rule.{Sat}
use Rattle.ww_invariant.specs.Steps.{knowing}
use Rattle.ww_invariant.specs.Guards.{AreSeats, exiting}
use Rattle.ww_invariant.specs.Waiting.{HasListOnTop, taking_inside}
use Rattle.ww_table.specs.declared.board.Board.{Board}
use Rattle.ww_table.specs.declared.seat.Stepper.{Stepper}
use Rattle.ww_table.specs.Seat.{IsSeatOf, locks_of, size_of, view_of}
use Rattle.ww_seat.specs.Orderly.{IsOrderly}
use Rattle.ww_seat.specs.Calls.{HoldsAsBefore}
use Rattle.ww_seat.specs.Looks.{MayWant, IsLook, IsNap, StaysAwake, MayLookSo, MayWaitSo}
pub use Rattle.ww_seat.specs.Marks.{IsMarked, AreMarked}
use Rattle.ww_seat.specs.declared.look.Arrival.{Arrival}
use Rattle.ww_seat.specs.declared.look.Arrival.TheVariants.{Came, Joined, Woken}
use Rattle.ww_seat.specs.declared.look.Attempt.{Attempt}
use Rattle.ww_seat.specs.declared.look.Attempt.TheVariants.{Lost, Ended}
use Rattle.ww_seat.specs.declared.look.Look.TheVariants.{Locked, Deadlk, Interrupted}
use Rattle.ww_seat.specs.declared.waits.Waits.{Waits}
use Rattle.ww_seat.specs.declared.waits.Waits.TheVariants.{UntilCancelled}

-- ---- what may change on the way

-- the owner word that it saw last, whom it found or made signed, and whom it condemned itself
abbrev pub touched : View → Option Owner → List ℕ → List ℕ → Bool → View
touched v seen signed condemned fresh = record v { seen = seen; signed = signed; condemned = condemned; fresh = fresh }

-- ... and some of them made it have to wake them
abbrev pub signing : View → List ℕ → List ℕ → List ℕ → Bool → View
signing v signed condemned debts fresh = record v { signed = signed; condemned = condemned; debts = debts; fresh = fresh }

-- what it knows of its own sign
abbrev pub told : View → Option ℕ → Bool → View
told v sign fresh = record v { sign = sign; fresh = fresh }

-- it condemned nobody
pub record IsTouched (size : ℕ) (m m' : Sat) : Type 0 where
  pub orderly : IsOrderly size m'
  pub seen : Option Owner
  pub signed : List ℕ
  pub fresh : Bool
  pub view : m'.0 ≡ knowing m.0 (touched m.0.part.core seen signed m.0.part.core.condemned fresh)

pub record IsTold (size : ℕ) (m m' : Sat) : Type 0 where
  pub orderly : IsOrderly size m'
  pub sign : Option ℕ
  pub fresh : Bool
  pub wants : WantsSigns m.0.part.core → WantsSigns (told m.0.part.core sign fresh)
  pub view : m'.0 ≡ knowing m.0 (told m.0.part.core sign fresh)

-- ---- which seats are to be woken

-- each seat that its own signs condemned since it went inside the guard, except itself
abbrev pub HasToWake : View → ℕ → Type 0
HasToWake v u = Has v.condemned u × (u ≢ v.who)

-- each seat that has to be woken has a mark
abbrev pub AreWoken : View → List ℕ → Type 0
AreWoken v wakes = (u : ℕ) → HasToWake v u → IsMarked wakes u

-- only a seat that has to be woken has a mark
abbrev pub AreOnlyWoken : View → List ℕ → Type 0
AreOnlyWoken v wakes = (u : ℕ) → IsMarked wakes u → HasToWake v u

-- whom it has to wake, once it condemned these inside one guard; before that it had to wake those
abbrev pub debts_with : ℕ → List ℕ → List ℕ → List ℕ
debts_with who [] debts = debts
debts_with who (u ∷ us) debts = with_condemned who us u (debts_with who us debts)

-- its debts are those whom it condemned since it went inside the guard, and these from before
abbrev pub HasBooked : List ℕ → View → Type 0
HasBooked before v = v.debts ≡ debts_with v.who v.condemned before

-- whoever had to be woken still has to be, and whom it condemns is added to its debts, and nobody else
pub record StillHasToWake (v v' : View) : Type 0 where
  pub still : (u : ℕ) → HasToWake v u → HasToWake v' u
  pub booked : (before : List ℕ) → HasBooked before v → HasBooked before v'

-- who it is, whom it condemned since it went inside the guard, whom it has to wake, and how often it looked at an owner word
pub record Deeds : Type 0 where
  pub who : ℕ
  pub condemned : List ℕ
  pub debts : List ℕ
  pub attempts : ℕ

abbrev pub deeds_of : View → Deeds
deeds_of v = record { who = v.who; condemned = v.condemned; debts = v.debts; attempts = v.attempts }

-- the same seat, and it condemned nobody, nor did it look at an owner word or leave a guard as a waiter; it has to wake nobody
-- else
pub record HasCondemnedNone (m m' : Sat) : Type 0 where
  pub deeds : deeds_of m'.0.part.core ≡ deeds_of m.0.part.core
  pub awake : StaysAwake m.0.part.core m'.0.part.core

-- each seat that has to be woken has a mark, and there is room for a mark of each seat
pub record AreMarksOf (v : View) (wake : List ℕ) : Type 0 where
  pub woken : AreWoken v wake
  pub room : v.seats ≤ 64 * length wake

-- Marked are those that were, and whoever has to be woken now, and nobody else; whoever had to be woken still has to be.
pub record HasMarked (wake : List ℕ) (v v' : View) (wake' : List ℕ) : Type 0 where
  pub marked : AreMarked wake (HasToWake v') wake'
  pub long : length wake' ≡ length wake
  pub still : StillHasToWake v v'

-- ---- where it stands

-- the seat stands in the wait list
abbrev pub has_joined : Arrival → Bool
has_joined Came = false
has_joined Joined = true
has_joined Woken = true

-- ... and looks again
abbrev pub looks_again : Arrival → Bool
looks_again Came = false
looks_again Joined = false
looks_again Woken = true

-- outside the guard: a seat that came just now stands in no list, and one that was woken in one
abbrev pub ComesOutside : Arrival → View → Type 0
ComesOutside a v = (has_joined a ≡ not (v.waits == 0)) × (looks_again a ≡ not (v.waits == 0))

-- in the wait list of the lock as one that holds what it holds, or not there
abbrev pub IsPlaced : Bool → ℕ → View → Type 0
IsPlaced true n v = (v.waits ≡ suc n) × (entry_of v.list v.who ≡ Some (entry_of_view v)) × (v.acted ≡ true)
IsPlaced false n v = (v.waits ≡ 0) × StandsNot v.list v.who

-- inside the guard, of a lock that it wants; a seat that looks again stands there already
pub record IsWorking (n : ℕ) (stands again : Bool) (v : View) : Type 0 where
  pub want : MayWant n v
  pub inside : v.inside ≡ suc n
  pub seats : AreSeats v.seats v.list
  pub once : Once v.list
  pub place : IsPlaced stands n v
  pub later : v.later ≡ again
  pub behind : again ≡ true → stands ≡ true

-- ... and it holds what it held before
pub record IsAtWork (size n : ℕ) (before : Sat) (stands again : Bool) (m : Sat) : Type 0 where
  pub orderly : IsOrderly size m
  pub working : IsWorking n stands again m.0.part.core
  pub holds : HoldsAsBefore before m

-- ---- where its functions find it

-- a seat of this board, of which just is out what its view says, and a lock of the board
pub record IsHere (board : Board) (n : ℕ) (s : Stepper) : Type 0 where
  pub seat : IsSeatOf board s
  pub lock : n < locks_of board
  pub orderly : IsOrderly (size_of board) s.seat.me

-- ... inside the guard of that lock
pub record IsInsideHere (board : Board) (n : ℕ) (s : Stepper) : Type 0 where
  pub seat : IsSeatOf board s
  pub lock : n < locks_of board
  pub orderly : IsOrderly (size_of board) s.seat.me
  pub inside : (view_of s).inside ≡ suc n

-- ... at work there
pub record IsAtWorkHere (board : Board) (n : ℕ) (stands again : Bool) (s : Stepper) : Type 0 where
  pub seat : IsSeatOf board s
  pub lock : n < locks_of board
  pub orderly : IsOrderly (size_of board) s.seat.me
  pub working : IsWorking n stands again (view_of s)

-- ... and in the wait list, whether it looks again or not
abbrev pub StandsHere : Board → ℕ → Stepper → Type 0
StandsHere board n s = (again : Bool) × IsAtWorkHere board n true again s

-- it is a seat of this board still, with the same records
pub record IsSameSeat (board : Board) (s s' : Stepper) : Type 0 where
  pub seat : IsSeatOf board s'
  pub records : s'.records ≡ s.records

-- ---- the word that it saw

-- of a lock that another has
pub record SeesOther (o : Owner) (v : View) : Type 0 where
  pub seen : v.seen ≡ Some o
  pub valid : IsValid o
  pub there : (u : ℕ) → o.seat ≡ Some u → u < v.seats
  pub other : TellsOther o v.who

-- ... and where it looks again somebody waits for that lock: the seat itself does
pub record SeesWaited (o : Owner) (again : Bool) (v : View) : Type 0 where
  pub sees : SeesOther o v
  pub flags : again ≡ true → o.flags ≢ 0

-- of a lock that is free, or is handed to the seat
pub record SeesFree (o : Owner) (v : View) : Type 0 where
  pub valid : IsValid o
  pub free : (o.seat ≡ None) ⊎ ((o.seat ≡ Some v.who) × (is_handed o ≡ true))

-- by which it may owe signs: the owner is one of the seats, as are all in the wait list, in which none stands twice
pub record SeesSeats (o : Owner) (v : View) : Type 0 where
  pub seen : v.seen ≡ Some o
  pub there : (u : ℕ) → o.seat ≡ Some u → u < v.seats
  pub seats : AreSeats v.seats v.list
  pub once : Once v.list

-- Nothing is changed, but that it may not have just looked for its own sign any more, and may have found no cancel.
pub record GoesOnAsBefore (size : ℕ) (m m' : Sat) : Type 0 where
  pub orderly : IsOrderly size m'
  pub fresh : Bool
  pub uncancelled : Bool
  pub view : m'.0 ≡ knowing m.0 (record (m.0.part.core) { fresh = fresh; uncancelled = uncancelled })

-- it owes these signs, to seats that there are
abbrev pub AreOwed : View → List (ℕ × ℕ) → Type 0
AreOwed v owed = (u k : ℕ) → Has owed (u, k) → (u < v.seats)
    × ((o : Owner) × (v.seen ≡ Some o) × Has (owed_signs v.kind o v.list v.who) (u, k))

-- It found or made signed each of these.
pub record HasNoted (size : ℕ) (owed : List (ℕ × ℕ)) (m m' : Sat) : Type 0 where
  pub orderly : IsOrderly size m'
  pub signed : List ℕ
  pub condemned : List ℕ
  pub debts : List ℕ
  pub fresh : Bool
  pub view : m'.0 ≡ knowing m.0 (signing m.0.part.core signed condemned debts fresh)
  pub all : (u k : ℕ) → Has owed (u, k) → Has signed u
  pub more : (u : ℕ) → Has m.0.part.core.condemned u → Has condemned u
  pub kept : (u : ℕ) → Has m.0.part.core.signed u → Has signed u
  pub booked : (before : List ℕ) → HasBooked before m.0.part.core → debts ≡ debts_with m.0.part.core.who condemned before

-- ... all whom it owes a sign by this word
abbrev pub HasSigned : ℕ → Owner → Sat → Sat → Type 0
HasSigned size o m m' = HasNoted size (owed_signs m.0.part.core.kind o m.0.part.core.list m.0.part.core.who) m m'

-- It took lock n inside the guard, and did nothing else. Its view names this node then, if the lock guards one.
pub record HasTakenInside (size n : ℕ) (m : Sat) (x : Node) (m' : Sat) : Type 0 where
  pub orderly : IsOrderly size m'
  pub view : m'.0 ≡ taking_inside m.0 n x
  pub node : IsNodeOf (length m.0.held) x

-- It stands in the wait list, and by the word that it saw another has the lock and somebody waits.
pub record HasStood (size n : ℕ) (stands : Bool) (o : Owner) (m : Sat) (p : Owner) (m' : Sat) : Type 0 where
  pub work : (again : Bool) → IsWorking n stands again m.0.part.core → IsAtWork size n m true again m'
  pub sees : SeesOther p m'.0.part.core
  pub flags : stands ≡ true → p ≡ o
  pub idle : HasCondemnedNone m m'

-- ... and if it looks again it leaves nothing to ask for
pub record HasAsked (o : Owner) (again : Bool) (v : View) : Type 0 where
  pub sees : SeesOther o v
  pub asked : again ≡ true → NothingToAsk v

-- ---- on the way out

-- inside a guard: it may take its own sign back in Wait-Die, where it doesn't have to die
pub record MayTakeSignBack (v : View) : Type 0 where
  pub inside : (n : ℕ) × (v.inside ≡ suc n)
  pub lives : v.kind ≡ WaitDie → LivesBySeen v

-- It may leave the guard once it took back its own sign, where it has to in Wait-Die.
pub record MayGo (n : ℕ) (v : View) : Type 0 where
  pub inside : v.inside ≡ suc n
  pub why : ((v.waits ≡ 0) × (owns v n ≡ false)) ⊎ HasPaid v
  pub acted : v.acted ≡ true
  pub again : v.later ≡ true → v.waits ≡ suc n → NothingToAsk v
  pub looked : v.kind ≡ WoundWait → v.waits ≡ suc n → 0 < v.stamp → ((m : ℕ) × (owns v m ≡ true)) → v.fresh ≡ true
  pub lives : v.kind ≡ WaitDie → LivesBySeen v

-- It doesn't have to die: in Wound-Wait it has just looked for its sign, where it holds locks.
pub record MayStay (o : Owner) (v : View) : Type 0 where
  pub looked : v.kind ≡ WoundWait → 0 < v.stamp → ((m : ℕ) × (owns v m ≡ true)) → v.fresh ≡ true
  pub lives : v.kind ≡ WaitDie → must_die v.kind o v.list v.who 0 ≡ None

-- its own sign is 0, unless it has no context
pub record IsCleared (m m' : Sat) : Type 0 where
  pub sign : Option ℕ
  pub fresh : Bool
  pub now : m' ≡ (knowing m.0 (told m.0.part.core sign fresh), m.1)
  pub same : m.0.part.core.kind ≡ WoundWait → (sign ≡ m.0.part.core.sign) × (fresh ≡ m.0.part.core.fresh)
  pub unsigned : m.0.part.core.kind ≡ WaitDie → (m.0.part.core.stamp ≡ 0) ⊎ (sign ≡ Some 0)

-- ---- what its functions answer

-- it left the guard
pub record HasLeftGuard (size : ℕ) (m m' : Sat) : Type 0 where
  pub orderly : IsOrderly size m'
  pub view : m'.0 ≡ exiting m.0

-- it read the wait list of lock n, and this is the owner word of that lock once it has taken it
pub record IsOwnWord (n : ℕ) (m : Sat) (o : Owner) (m' : Sat) : Type 0 where
  pub read : HasListOnTop m n m'
  pub word : o ≡ taken_word m.0.part.core.who m.0.part.core.stamp m.0.part.core.list
  pub valid : IsValid o

-- it took the lock, or the owner word has changed
pub record HasTriedInside (size n : ℕ) (m : Sat) (did : Bool) (m' : Sat) : Type 0 where
  pub took : did ≡ true → (x : Node) × HasTakenInside size n m x m'
  pub lost : did ≡ false → IsTouched size m m'

-- this is the node of lock n, or a blank one if that guards none
pub record HasReadNode (size n : ℕ) (m : Sat) (x : Node) (m' : Sat) : Type 0 where
  pub orderly : IsOrderly size m'
  pub view : m'.0 ≡ m.0
  pub node : n < size → get_elem? m.0.held n ≡ some (Some x)
  pub blank : size ≤ n → (k : ℕ) → IsNodeOf k x

-- it stands in the wait list, by this word, or the word has changed
abbrev pub IsStand : ℕ → ℕ → Bool → Owner → Sat → Option Owner → Sat → Type 0
IsStand size n stands o m (Some p) m' = HasStood size n stands o m p m'
IsStand size n stands o m None m' = IsTouched size m m'

-- by this word there is nothing left to ask for, or the word has changed
pub record HasAskedIfFirst (size : ℕ) (again : Bool) (m : Sat) (r : Option Owner) (m' : Sat) : Type 0 where
  pub touched : IsTouched size m m'
  pub asked : IfSome r (λ o. HasAsked o again m'.0.part.core)

-- it looked whether it has to die, for this stamp, and may do so then; or it may stay
pub record HasLookedForDeath (size n : ℕ) (o : Owner) (m : Sat) (r : Option ℕ) (m' : Sat) : Type 0 where
  pub told : IsTold size m m'
  pub death : IfSome r (λ k. MayDie m'.0.part.core n o k)
  pub life : IfNone r (MayStay o m'.0.part.core)

-- it left the wait list and the guard, for any stamp for which it may die; or the word has changed
pub record HasBackedOff (size n : ℕ) (o : Owner) (m : Sat) (did : Bool) (m' : Sat) : Type 0 where
  pub met : did ≡ true → (k : ℕ) → MayDie m.0.part.core n o k → IsLook size n m (Deadlk k) m'
  pub lost : did ≡ false → IsTouched size m m'
  pub idle : HasCondemnedNone m m'

-- a wait that a cancel may end has found none
abbrev pub HasFoundNone : Waits → View → Type 0
HasFoundNone waits v = waits ≡ UntilCancelled → v.uncancelled ≡ true

-- it left the wait list and the guard for a cancel that this seat had set, or found none where its wait heeds one
abbrev pub IsStop : ℕ → ℕ → ℕ → Waits → Sat → Option ℕ → Sat → Type 0
IsStop seats size n waits m (Some by) m' = IsLook size n m (Interrupted by) m' × MayLookSo seats waits (Interrupted by)
    × HasCondemnedNone m m'
IsStop seats size n waits m None m' = GoesOnAsBefore size m m' × HasFoundNone waits m'.0.part.core × HasCondemnedNone m m'

-- the look is at its end; or another owner word was found than was seen, and the seat is still at work
abbrev pub CameInside : Board → ℕ → Bool → Bool → Waits → Sat → Attempt → Sat → Type 0
CameInside board n stands again waits m (Ended l) m' = IsLook (size_of board) n m l m'
    × MayLookSo board.table.shared.key.places waits l × MayWaitSo waits m'.0.part.core l × IsNap m.0.part.core l m'.0.part.core
CameInside board n stands again waits m Lost m' = IsAtWork (size_of board) n m stands again m' × StaysAwake m.0.part.core m'.0.part.core

-- An attempt came to this; so often the seat has looked at an owner word then, and whom it condemned has a mark.
pub record HasComeTo (board : Board) (n : ℕ) (stands again : Bool) (waits : Waits) (m : Sat) (wake : List ℕ) (looks : ℕ)
    (a : Attempt) (m' : Sat) (wake' : List ℕ) : Type 0 where
  pub came : CameInside board n stands again waits m a m'
  pub attempts : m'.0.part.core.attempts ≡ looks
  pub marked : HasMarked wake m.0.part.core m'.0.part.core wake'

-- the lock was taken, with this node, or the word has changed
abbrev pub attempt_of : Option Node → Attempt
attempt_of (Some x) = Ended (Locked x)
attempt_of None = Lost

-- It took the lock and is outside, or is still at work as it was, since the word has changed; whatever wait it is.
abbrev pub IsTakingInside : Board → ℕ → Sat → List ℕ → Option Node → Sat → List ℕ → Type 0
IsTakingInside board n m wake r m' wake' = (stands again : Bool) (waits : Waits) → IsWorking n stands again m.0.part.core
    → HasComeTo board n stands again waits m wake m.0.part.core.attempts (attempt_of r) m' wake'

-- It is outside, in the wait list or as it backed off, or is still at work, since the word has changed; whatever wait it is
-- that has found no cancel.
abbrev pub IsStay : Board → ℕ → Bool → Sat → List ℕ → Attempt → Sat → List ℕ → Type 0
IsStay board n again m wake a m' wake' = (waits : Waits) → HasFoundNone waits m.0.part.core
    → HasComeTo board n true again waits m wake m.0.part.core.attempts a m' wake'
