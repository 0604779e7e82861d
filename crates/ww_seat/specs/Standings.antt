-- What a contract sees of a seat, and what each call of it asks and makes of that.
use Rattle.std.specs.Prelude.{ℕ, suc, ◌≡◌, ◌≢◌, ◌<◌, ◌≤◌, ◌+◌, ◌-◌, ◌*◌, ◌^◌, ◌==◌, ◌⊎◌, not, Bool, true, false, List, [], length, slice_get, Option, Some, None, Result, Ok, Err, vec_len, vec_capacity}
use Rattle.std.specs.Option.{option_map}
use Rattle.atomic_table.specs.Seated.{TableId}
use Rattle.ww_queue.specs.declared.entry.Entry.{Entry}
use Rattle.ww_plain.specs.declared.node.Node.{Node}
use Rattle.ww_plain.specs.declared.history.Record.{Record}
use Rattle.ww_plain.specs.Footprint.{footprint_of}
use Rattle.ww_plain.specs.Transaction.{transaction_of}
use Rattle.ww_plain.specs.Meaning.{graph_after}
use Rattle.ww_plain.specs.History.{IsNext, recorded_of}
use Rattle.ww_model.specs.State.{any_below}
use Rattle.ww_view.specs.declared.view.View.{View}
use Rattle.ww_view.specs.View.{owns, IsAway}
use Rattle.ww_view.specs.May.{WantsBase, WantsSigns, MayFast}
use Rattle.ww_view.specs.Made.{with_heir}
use Rattle.ww_invariant.specs.Rule.{Sat}
use Rattle.ww_invariant.specs.Steps.{drawing_none, seeing}
use Rattle.ww_invariant.specs.Signs.{having_read, finding_none}
use Rattle.ww_invariant.specs.Cancels.{cancelling, finding_pending}
use Rattle.ww_invariant.specs.Guards.{AreSeats, shutting_out}
use Rattle.ww_table.specs.declared.board.Board.{Board}
use Rattle.ww_table.specs.declared.seat.Stepper.{Stepper}
use Rattle.ww_table.specs.declared.seat.Taking.{Taking}
use Rattle.ww_table.specs.declared.seat.Giving.{Giving}
use Rattle.ww_table.specs.Seat.{IsSeated, locks_of, size_of}
use Rattle.ww_queue.specs.declared.kind.Kind.TheVariants.{WaitDie}
use Rattle.ww_seat.specs.declared.bell.Bell.{Bell}
use Rattle.ww_seat.specs.declared.committing.NodeChange.{NodeChange}
use Rattle.ww_seat.specs.declared.look.Arrival.{Arrival}
use Rattle.ww_seat.specs.declared.look.Attempt.{Attempt}
use Rattle.ww_seat.specs.declared.look.Attempt.TheVariants.{Lost, Ended}
use Rattle.ww_seat.specs.declared.look.Look.{Look}
use Rattle.ww_seat.specs.declared.patience.Patience.{Patience}
use Rattle.ww_seat.specs.declared.waiting.NoLock.{NoLock}
use Rattle.ww_seat.specs.declared.waits.Waits.{Waits}
use Rattle.ww_seat.specs.declared.waits.Waits.TheVariants.{UntilCancelled}
use Rattle.ww_seat.specs.Bells.{sleeps_at, AreBellsOf, ArePaid, ArePlacedAlike, HasRungHeir, HaveRung, IsRung, OnlyRing, heard}
use Rattle.ww_seat.specs.Calls.{HoldsAsBefore, HasTaken, HasTakenAtOnce, HasMissed, HasTriedOnce, HasStayedOut, HasGiven, HasLetOnce, IsTurnedAway, MayStop, HasBegun, HasEnded, HoldsAll, HasCommitted}
use Rattle.ww_seat.specs.Commits.{changes_of}
use Rattle.ww_seat.specs.declared.resting.Stay.{Stay}
use Rattle.ww_seat.specs.Looks.{CameTo, HasGlanced, MayWant, IsNap, StaysAwake, MayLookSo, MayWaitSo}
use Rattle.ww_seat.specs.Orderly.{IsOrderly}
use Rattle.ww_seat.specs.Work.{AreWoken, AreOnlyWoken, AreMarked, HasToWake, HasBooked, StillHasToWake, has_joined, looks_again, IsWorking}

-- Its table; for how many more records it has room; and what it has out and knows.
pub record Standing : Type 0 where
  pub home : TableId
  pub room : ℕ
  pub me : Sat

abbrev pub standing_of : Stepper → Standing
standing_of s = record { home = s.seat.table_id; room = vec_capacity s.records - vec_len s.records; me = s.seat.me }

-- what is true of each seat before and after a call: it is seated at its table, and out is just what its view says
pub record IsKept (s : Stepper) : Type 0 where
  pub seated : IsSeated s.seat.table_id s
  pub orderly : IsOrderly (length s.seat.me.0.held) s.seat.me

-- what it knows of the locks
abbrev pub view_in : Standing → View
view_in s = s.me.0.part.core

-- how many nodes its table has
abbrev pub size_in : Standing → ℕ
size_in s = length s.me.0.held

-- it is a seat of this board
pub record IsAt (board : Board) (s : Standing) : Type 0 where
  pub home : s.home ≡ board.table.shared.table_id
  pub size : size_in s ≡ size_of board

-- it is still the same seat: only what it has out and knows may be another
pub record IsSame (s s' : Standing) : Type 0 where
  pub now : s' ≡ record s { me = s'.me }
  pub size : size_in s' ≡ size_in s

-- ... and is between two calls: inside no guard, and in no wait list
pub record IsBack (s s' : Standing) : Type 0 where
  pub same : IsSame s s'
  pub away : IsAway (view_in s')

-- ... and it went inside no guard meanwhile
pub record IsBackAtOnce (s s' : Standing) : Type 0 where
  pub back : IsBack s s'
  pub out : HasStayedOut (view_in s) (view_in s')

-- whether it owns a lock
abbrev pub owns_any : View → Bool
owns_any v = any_below (length v.owned) (owns v)

-- each lock that it owns guards a node
abbrev pub OwnsNodes : Standing → Type 0
OwnsNodes s = (n : ℕ) → owns (view_in s) n ≡ true → n < size_in s

-- ---- contexts

-- a context of this stamp began, which nobody has signed; or all stamps are spent, which those of 16 seats never are
abbrev pub IsBegin : Board → Standing → Option ℕ → Standing → Type 0
IsBegin board s (Some k) s' = IsBackAtOnce s s' × HasBegun s.me k s'.me × (0 < k) × ((view_in s').sign ≡ Some 0)
IsBegin board s None s' = (board.table.shared.key.places ≢ 16) × (s' ≡ record s { me = (drawing_none s.me.0, s.me.1) })

abbrev pub IsEnd : Standing → Standing → Type 0
IsEnd s s' = IsBackAtOnce s s' × HasEnded s.me s'.me

-- ---- taking a lock at once

-- Only its own sign may have changed, which doesn't forbid it to want a lock now; where it holds one nothing has.
pub record IsUnsigned (s : Standing) (holds : Bool) (s' : Standing) : Type 0 where
  pub back : IsBackAtOnce s s'
  pub same : HoldsAsBefore s.me s'.me
  pub met : (view_in s').met ≡ (view_in s).met
  pub signs : WantsSigns (view_in s')
  pub idle : holds ≡ true → s'.me ≡ s.me

-- it may try to take lock n, which guards a node, as does each that it owns
pub record MayTry (board : Board) (n : ℕ) (s : Standing) : Type 0 where
  pub there : n < size_of board
  pub away : IsAway (view_in s)
  pub lacks : owns (view_in s) n ≡ false
  pub base : WantsBase (view_in s)
  pub nodes : OwnsNodes s

-- ... and no sign forbids it
pub record MayTake (board : Board) (n : ℕ) (s : Standing) : Type 0 where
  pub there : n < size_of board
  pub lacks : owns (view_in s) n ≡ false
  pub may : MayFast (view_in s)

-- it may try to take lock n, which guards none, and which it may own; as its caller says it owns a lock or none
pub record MayTryBare (board : Board) (n : ℕ) (holds : Bool) (s : Standing) : Type 0 where
  pub bare : size_of board ≤ n
  pub there : n < locks_of board
  pub packed : 64 < locks_of board
  pub away : IsAway (view_in s)
  pub base : WantsBase (view_in s)
  pub any : owns_any (view_in s) ≡ holds

-- ... and no sign forbids it
pub record MayTakeBare (board : Board) (n : ℕ) (s : Standing) : Type 0 where
  pub bare : size_of board ≤ n
  pub there : n < locks_of board
  pub packed : 64 < locks_of board
  pub may : MayFast (view_in s)

-- it owns a lock, and is inside no guard: so others may sign it
pub record MayLookSigned (s : Standing) : Type 0 where
  pub outside : (view_in s).inside ≡ 0
  pub owner : (n : ℕ) × (owns (view_in s) n ≡ true)

-- it found this sign, which its view then names; or none, at that moment
abbrev pub HasLookedSigned : Standing → ℕ → Standing → Type 0
HasLookedSigned s k s' = (k ≢ 0 → s' ≡ record s { me = (having_read s.me.0 k, s.me.1) })
    × (k ≡ 0 → s' ≡ record s { me = (finding_none s.me.0, s.me.1) })

-- it has the lock, with this node; or it may go on to wait for it
abbrev pub HasTriedNode : Sat → ℕ → Option Node → Sat → Type 0
HasTriedNode m n (Some x) m' = HasTakenAtOnce m n x m'
HasTriedNode m n None m' = HasMissed m n m'

abbrev pub IsTry : Standing → ℕ → Option Node → Standing → Type 0
IsTry s n x s' = IsBackAtOnce s s' × HasTriedNode s.me n x s'.me

abbrev pub IsTryBare : Standing → ℕ → Taking → Standing → Type 0
IsTryBare s n taking s' = IsBackAtOnce s s' × HasTriedOnce s.me n taking s'.me

-- ---- waiting for a lock

-- each of these bells gave as many tokens as it owed that seat wakes, and it slept as often as it left a guard as a waiter
pub record IsEven (m : Sat) (patience : Patience) (bells : List Bell) : Type 0 where
  pub paid : ArePaid m bells
  pub slept : heard patience ≡ m.0.part.core.naps

-- it has just tried in vain to take lock n, and may wait for it
pub record MayWait (board : Board) (n : ℕ) (s : Standing) : Type 0 where
  pub there : n < locks_of board
  pub away : IsAway (view_in s)
  pub want : MayWant n (view_in s)
  pub nodes : OwnsNodes s
  pub tried : (view_in s).glances ≡ 0

-- with these it may wait for others: there is a bell for each of at most 16 seats, and no wake or sleep is owed
pub record MayWaitWith (board : Board) (s : Standing) (patience : Patience) (bells : List Bell) : Type 0 where
  pub bells_are : AreBellsOf board bells
  pub few : board.table.shared.key.places ≤ 16
  pub even : IsEven s.me patience bells

-- what a wait came to: the lock with its node, or why not
abbrev pub HasWaited : ℕ → Sat → ℕ → Waits → Result Node NoLock → Sat → Type 0
HasWaited seats m n waits (Ok x) m' = HasTaken m n x m'
HasWaited seats m n waits (Err why) m' = IsTurnedAway m n why m' × MayStop seats waits why

-- the bells and the parker are the same, and no wake or sleep is owed
pub record StaysEven (p : Patience) (bells : List Bell) (s' : Standing) (p' : Patience) (bells' : List Bell) : Type 0 where
  pub parker : sleeps_at p' ≡ sleeps_at p
  pub placed : ArePlacedAlike bells bells'
  pub even : IsEven s'.me p' bells'

-- a wait came to its end; one until a cancel never slept without having looked for that
pub record IsWait (board : Board) (s : Standing) (n : ℕ) (waits : Waits) (r : Result Node NoLock) (s' : Standing) : Type 0 where
  pub back : IsBack s s'
  pub came : HasWaited board.table.shared.key.places s.me n waits r s'.me
  pub deaf : waits ≡ UntilCancelled → (view_in s').deaf ≡ (view_in s).deaf

-- It sleeps as a waiter, outside of all guards, for the last time that it left one so, and has made all wakes that it owed. In
-- a wait until a cancel it found none there.
pub record MaySleep (patience : Patience) (bells : List Bell) (waits : Waits) (s : Standing) : Type 0 where
  pub stands : (view_in s).waits ≢ 0
  pub outside : (view_in s).inside ≡ 0
  pub paid : ArePaid s.me bells
  pub due : heard patience + 1 ≡ (view_in s).naps
  pub uncancelled : waits ≡ UntilCancelled → (view_in s).uncancelled ≡ true

-- it has made some spin reads, and is otherwise as it was
pub record HasStayedAway (s s' : Standing) : Type 0 where
  pub now : s' ≡ record s { me = s'.me }
  pub glanced : HasGlanced s.me s'.me

-- it saw whose lock n is: its view says which number it found in the lock's word, and nothing else has changed
abbrev pub HasSeenWord : Standing → ℕ → ℕ → Standing → Type 0
HasSeenWord s n word s' = s' ≡ record s { me = (seeing s.me.0 n word, s.me.1) }

-- it stays away, and has so many spin reads left
pub record MayGlanceOn (stay : Stay) (v : View) : Type 0 where
  pub away : IsAway v
  pub one : 1 ≤ stay.glances
  pub few : v.glances + stay.glances ≤ 16

-- ---- releasing a lock

-- it owns lock n
pub record MayRelease (board : Board) (n : ℕ) (s : Standing) : Type 0 where
  pub there : n < locks_of board
  pub away : IsAway (view_in s)
  pub owner : owns (view_in s) n ≡ true

-- ... which guards a node
pub record MayReleaseNode (board : Board) (n : ℕ) (s : Standing) : Type 0 where
  pub there : n < size_of board
  pub away : IsAway (view_in s)
  pub owner : owns (view_in s) n ≡ true

-- lock n guards no node; it may own that
pub record MayReleaseBare (board : Board) (n : ℕ) (s : Standing) : Type 0 where
  pub bare : size_of board ≤ n
  pub there : n < locks_of board
  pub packed : 64 < locks_of board
  pub away : IsAway (view_in s)

-- it has the lock no more; or somebody may wait for it, and it is kept
abbrev pub HasLetNode : Sat → ℕ → Bool → Sat → Type 0
HasLetNode m n true m' = HasGiven m n m' × (m'.0.part.core.kept ≡ m.0.part.core.kept)
HasLetNode m n false m' = HoldsAsBefore m m' × (m'.0.part.core.kept ≡ m.0.part.core.kept + 1)

abbrev pub IsGive : Standing → ℕ → Bool → Standing → Type 0
IsGive s n gave s' = IsBackAtOnce s s' × HasLetNode s.me n gave s'.me

abbrev pub IsGiveBare : Standing → ℕ → Giving → Standing → Type 0
IsGiveBare s n giving s' = IsBackAtOnce s s' × HasLetOnce s.me n giving s'.me

-- it released the lock, and its first waiter was woken, and nobody else
pub record IsGiven (s : Standing) (n : ℕ) (bells : List Bell) (s' : Standing) (bells' : List Bell) : Type 0 where
  pub back : IsBack s s'
  pub given : HasGiven s.me n s'.me
  pub awake : StaysAwake (view_in s) (view_in s')
  pub rung : HasRungHeir (view_in s') bells bells'
  pub others : OnlyRing (λ u. (view_in s').heir ≡ Some u) bells bells'
  pub placed : ArePlacedAlike bells bells'
  pub paid : ArePaid s.me bells → ArePaid s'.me bells'

-- ---- calling off a wait

-- there is such a seat
pub record MayCancel (board : Board) (victim : ℕ) (s : Standing) : Type 0 where
  pub away : IsAway (view_in s)
  pub there : victim < board.table.shared.key.places

-- its cancel is set, or was pending
abbrev pub HasCancelled : Standing → ℕ → Bool → Standing → Type 0
HasCancelled s victim true s' = s' ≡ record s { me = (cancelling s.me.0 victim, s.me.1) }
HasCancelled s victim false s' = s' ≡ record s { me = (finding_pending s.me.0, s.me.1) }

-- ... and the seat was woken, if its cancel was set, and nobody else
pub record IsCancel (s : Standing) (victim : ℕ) (bells : List Bell) (set : Bool) (s' : Standing) (bells' : List Bell) : Type 0 where
  pub cancelled : HasCancelled s victim set s'
  pub rung : set ≡ true → IsRung victim bells bells'
  pub others : OnlyRing (λ u. (set ≡ true) × (u ≡ victim)) bells bells'
  pub placed : ArePlacedAlike bells bells'
  pub paid : ArePaid s.me bells → ArePaid s'.me bells'

-- ---- a commit

-- The record is the next one of its log, and legal behind the graph that it was prepared on; these are the nodes that it
-- changes; it holds all of its footprint, as they are in that graph; and there is room for the record.
pub record MayCommit (board : Board) (done : Record) (before : List Node) (changes : List NodeChange) (s : Standing) : Type 0 where
  pub away : IsAway (view_in s)
  pub owner : (n : ℕ) × (owns (view_in s) n ≡ true)
  pub caller : done.caller ≡ (view_in s).who
  pub seq : done.seq ≡ length s.me.0.part.own
  pub next : IsNext before (recorded_of done)
  pub changes_are : changes ≡ changes_of before (transaction_of done.txn)
  pub size : length before ≡ size_of board
  pub held : HoldsAll s.me before (footprint_of before (transaction_of done.txn))
  pub fewer : length s.me.0.part.own + 1 < 2 ^ 32
  pub reserved : 1 ≤ s.room

-- it has the record at this place, and room for one fewer
pub record IsCommit (s : Standing) (done : Record) (before : List Node) (place : ℕ) (s' : Standing) : Type 0 where
  pub now : s' ≡ record s { room = s.room - 1; me = s'.me }
  pub size : size_in s' ≡ size_in s
  pub away : IsAway (view_in s')
  pub out : HasStayedOut (view_in s) (view_in s')
  pub committed : HasCommitted s.me place done (graph_after before (transaction_of done.txn))
      (footprint_of before (transaction_of done.txn)) s'.me

-- ---- one look at a lock, in steps

-- outside the guard of lock n, which it wants: it stands in the wait list of that lock, or in none
pub record MayGoIn (board : Board) (n : ℕ) (s : Standing) : Type 0 where
  pub there : n < locks_of board
  pub want : MayWant n (view_in s)
  pub outside : (view_in s).inside ≡ 0
  pub place : ((view_in s).waits ≡ 0) ⊎ ((view_in s).waits ≡ suc n)

-- another seat is inside the guard
abbrev pub WasShutOut : Standing → Standing → Type 0
WasShutOut s s' = s' ≡ record s { me = (shutting_out s.me.0, s.me.1) }

-- it went into a guard, and holds what it held
pub record HasGoneIn (s s' : Standing) : Type 0 where
  pub same : IsSame s s'
  pub holds : HoldsAsBefore s.me s'.me
  pub debts : (view_in s').debts ≡ (view_in s).debts
  pub awake : StaysAwake (view_in s) (view_in s')

-- ... of lock n, which it wants, and has condemned nobody yet
pub record IsIn (s : Standing) (n : ℕ) (s' : Standing) : Type 0 where
  pub gone : HasGoneIn s s'
  pub condemned : (view_in s').condemned ≡ []
  pub working : IsWorking n (not ((view_in s).waits == 0)) (not ((view_in s).waits == 0)) (view_in s')

-- one try to go in
abbrev pub IsGoneIn : Standing → ℕ → Bool → Standing → Type 0
IsGoneIn s n true s' = IsIn s n s' × ((view_in s').attempts ≡ (view_in s).attempts + 1)
IsGoneIn s n false s' = WasShutOut s s'

-- it is at work inside the guard of lock n, where it came so, and whom it condemned there has a mark
pub record IsAtWorkThere (board : Board) (n : ℕ) (arrival : Arrival) (holds : Bool) (wake : List ℕ) (s : Standing) : Type 0 where
  pub there : n < locks_of board
  pub working : IsWorking n (has_joined arrival) (looks_again arrival) (view_in s)
  pub any : owns_any (view_in s) ≡ holds
  pub woken : AreWoken (view_in s) wake
  pub marks : board.table.shared.key.places ≤ 64 * length wake

-- the look is at its end; or another owner word was found than was seen, and the seat is still at work
abbrev pub IsAttempt : ℕ → Standing → ℕ → Waits → Arrival → Attempt → Standing → Type 0
IsAttempt seats s n waits arrival (Ended l) s' = CameTo n s.me l s'.me × MayLookSo seats waits l × MayWaitSo waits (view_in s') l
    × IsNap (view_in s) l (view_in s')
IsAttempt seats s n waits arrival Lost s' = IsWorking n (has_joined arrival) (looks_again arrival) (view_in s')
    × HoldsAsBefore s.me s'.me × StaysAwake (view_in s) (view_in s')

-- one attempt at a look; whom it condemned has a mark then, and nobody else who had none
pub record HasAttempted (seats : ℕ) (s : Standing) (n : ℕ) (waits : Waits) (arrival : Arrival) (wake : List ℕ)
    (r : Attempt) (s' : Standing) (arrival' : Arrival) (wake' : List ℕ) : Type 0 where
  pub same : IsSame s s'
  pub came : IsAttempt seats s n waits arrival' r s'
  pub again : looks_again arrival' ≡ looks_again arrival
  pub attempted : (view_in s').attempts ≡ (view_in s).attempts + 1
  pub marked : AreMarked wake (HasToWake (view_in s')) wake'
  pub long : length wake' ≡ length wake
  pub still : StillHasToWake (view_in s) (view_in s')

-- a whole look, from inside the guard to outside; marks have just those whom it condemned
pub record HasLooked (seats : ℕ) (s : Standing) (n : ℕ) (waits : Waits) (wake : List ℕ) (l : Look) (s' : Standing)
    (wake' : List ℕ) : Type 0 where
  pub same : IsSame s s'
  pub came : CameTo n s.me l s'.me
  pub may : MayLookSo seats waits l
  pub uncancelled : MayWaitSo waits (view_in s') l
  pub nap : IsNap (view_in s) l (view_in s')
  pub booked : (before : List ℕ) → HasBooked before (view_in s) → HasBooked before (view_in s')
  pub woken : AreWoken (view_in s') wake'
  pub only : AreOnlyWoken (view_in s') wake'
  pub long : length wake' ≡ length wake

-- a whole look, from outside to outside; it woke whom it condemned, and nobody else
pub record IsVisit (seats : ℕ) (s : Standing) (n : ℕ) (waits : Waits) (bells : List Bell) (l : Look) (s' : Standing)
    (bells' : List Bell) : Type 0 where
  pub same : IsSame s s'
  pub came : CameTo n s.me l s'.me
  pub may : MayLookSo seats waits l
  pub uncancelled : MayWaitSo waits (view_in s') l
  pub nap : IsNap (view_in s) l (view_in s')
  pub booked : HasBooked (view_in s).debts (view_in s')
  pub rung : HaveRung (view_in s') bells bells'
  pub others : OnlyRing (HasToWake (view_in s')) bells bells'
  pub placed : ArePlacedAlike bells bells'
  pub paid : ArePaid s.me bells → ArePaid s'.me bells'

-- ---- releasing a lock inside its guard, in steps

-- it is inside the guard of lock n, as the owner that releases it
pub record IsGivingThere (n : ℕ) (v : View) : Type 0 where
  pub inside : v.inside ≡ suc n
  pub waits : v.waits ≡ 0
  pub owner : owns v n ≡ true
  pub seats : AreSeats v.seats v.list
  pub unsigned : v.kind ≡ WaitDie → v.sign ≡ Some 0

abbrev pub IsGoneInToGive : Standing → ℕ → Bool → Standing → Type 0
IsGoneInToGive s n true s' = HasGoneIn s s' × IsGivingThere n (view_in s') × ((view_in s').attempts ≡ (view_in s).attempts + 1)
IsGoneInToGive s n false s' = WasShutOut s s'

-- it released the lock and is outside; this was the first waiter, whom it has to wake
pub record HasGivenOn (s : Standing) (n : ℕ) (first : Option Entry) (s' : Standing) : Type 0 where
  pub back : IsBack s s'
  pub given : HasGiven s.me n s'.me
  pub is_first : first ≡ slice_get (view_in s).list 0
  pub heir : (view_in s').heir ≡ option_map (λ (e : Entry). e.seat) first
  pub attempted : (view_in s').attempts ≡ (view_in s).attempts + 1
  pub debts : (view_in s').debts ≡ with_heir (view_in s').heir (view_in s).debts
  pub awake : StaysAwake (view_in s) (view_in s')
