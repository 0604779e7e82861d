-- What became of a call of a desk, by its answer. A call may learn something of the locks, which its view then says.
use Rattle.std.specs.Prelude.{ℕ, suc, ◌≡◌, ◌≢◌, ◌<◌, ◌≤◌, ◌+◌, ◌-◌, ◌⊎◌, ◌∷◌, ◌++◌, [], Option, Bool, true, false, List, Some, None, length}
use Rattle.ww_plain.specs.Numbers.{is_among}
use Rattle.ww_view.specs.Made.{found_pending, has_seen_word, shut_out, without}
use Rattle.ww_invariant.specs.Rule.{times}
use Rattle.ww_table.specs.declared.seat.Taking.{Taking}
use Rattle.ww_table.specs.declared.seat.Taking.TheVariants as try
use Rattle.ww_seat.specs.Calls.{HasMet, HasStayedOut}
use Rattle.ww_seat.specs.Looks.{MayWant}
use Rattle.ww_seat.specs.Work.{HasToWake}
use Rattle.ww_seat.specs.Marks.{is_marked, IsMarked, AreMarked}
use Rattle.ww_seat.specs.declared.look.Arrival.TheVariants.{Came, Woken}
use Rattle.ww_seat.specs.declared.waits.Waits.{Waits}
use Rattle.ww_seat.specs.declared.waits.Waits.TheVariants.{UntilCancelled}
use Rattle.ww_steps.specs.declared.turn.Turn.{Turn}
use Rattle.ww_steps.specs.declared.turn.Turn.TheVariants as at
use Rattle.ww_steps.specs.declared.turn.NoTry.{NoTry}
use Rattle.ww_steps.specs.declared.turn.NoTry.TheVariants as no
use Rattle.ww_steps.specs.declared.turn.Answer.{Answer}
use Rattle.ww_steps.specs.declared.turn.Answer.TheVariants.{Done, Again, Awaits, Sleeps, Busy, Invalid, Already, NoSpace, Deadlk, Interrupted}
use Rattle.ww_steps.specs.Situations.{Situation, is_at_rest, is_inside, waits_outside, until_cancelled, can_want, wants_now}

-- ---- what a call makes of a desk

-- it went inside no guard, so there is nobody whom it has to wake for this
abbrev pub StaysOut : Situation → Situation → Type 0
StaysOut s s' = HasStayedOut s.view s'.view

-- one lock more is held, the only one that it took, and it took that by one step
abbrev pub HasLock : Situation → ℕ → Situation → Type 0
HasLock s n s' = StaysOut s s'
    × (s' ≡ record s { held = s.held ++ n ∷ []; told = None; tries = s.tries + 1; takes = s.takes + 1; view = s'.view })

-- it tried once to take the lock by one step, in vain
abbrev pub TriedInVain : Situation → Situation → Type 0
TriedInVain s s' = StaysOut s s' × (s' ≡ record s { tries = s.tries + 1; view = s'.view })

-- this lock is held no more; it was released by one step
abbrev pub HasGivenBack : Situation → ℕ → Situation → Type 0
HasGivenBack s n s' = StaysOut s s' × (s' ≡ record s { held = without n s.held; view = s'.view })

-- its call stands there now, and it is still outside
abbrev pub HasTurned : Situation → Turn → Situation → Type 0
HasTurned s turn s' = StaysOut s s' × (s' ≡ record s { turn = turn; view = s'.view })

-- it tried to go inside a guard, or looked at an owner word there
abbrev pub MadeProgress : Situation → Situation → Type 0
MadeProgress s s' = s.view.attempts < s'.view.attempts

-- it tried once to release a lock by one step, in vain: the lock's word said more than its owner
abbrev pub HasKept : Situation → Situation → Type 0
HasKept s s' = s'.view.kept ≡ s.view.kept + 1

-- Another seat is inside the guard that it wants to go into. It has learned nothing else, is inside no guard, and has changed
-- nothing.
pub record IsShutOut (s s' : Situation) : Type 0 where
  pub came : is_inside s.turn ≡ false
  pub outside : s'.view.inside ≡ 0
  pub now : s' ≡ record s { view = shut_out s.view }

-- ---- whom it has to wake

-- also whom it condemned inside the guard, and nobody else
abbrev pub WakesCondemned : Situation → Situation → Type 0
WakesCondemned s s' = AreMarked s.wakes (HasToWake s'.view) s'.wakes

-- also the first waiter of the lock that it released inside the guard, and nobody else
abbrev pub WakesHeir : Situation → Situation → Type 0
WakesHeir s s' = AreMarked s.wakes (λ u. (s'.view.heir ≡ Some u) × (u ≢ s.caller)) s'.wakes

-- also this seat, unless it is itself, and nobody else
abbrev pub WakesAlso : Situation → ℕ → Situation → Type 0
WakesAlso s u s' = AreMarked s.wakes (λ t. (u ≢ s.caller) × (t ≡ u)) s'.wakes

-- How many wakes it has owed this seat so far: one each time that it set the cancel of that seat, and one for each of its
-- debts to it.
abbrev pub owed_so_far : Situation → ℕ → ℕ
owed_so_far s u = times u s.cancelled + times u s.view.debts

-- The account of wakes since an earlier time: it owes each seat what it owed then, or more; and marked are those who were, and
-- each other seat that it owes more now, and nobody else.
pub record Balances (first s : Situation) : Type 0 where
  pub caller : s.caller ≡ first.caller
  pub owed : (u : ℕ) → owed_so_far first u ≤ owed_so_far s u
  pub marks : AreMarked first.wakes (λ u. (owed_so_far first u < owed_so_far s u) × (u ≢ first.caller)) s.wakes

-- since whatever time its account balanced, it still does
abbrev pub BooksWakes : Situation → Situation → Type 0
BooksWakes s s' = (first : Situation) → Balances first s → Balances first s'

-- ---- when it has to sleep

-- how often it left a guard as a waiter, after a step that returns this: once more if that is to sleep
abbrev pub naps_then : Answer → ℕ → ℕ
naps_then Sleeps naps = naps + 1
naps_then _ naps = naps

-- it left a guard as a waiter once, if the answer is to sleep, and otherwise not
abbrev pub CountsNaps : Situation → Answer → Situation → Type 0
CountsNaps s a s' = s'.view.naps ≡ naps_then a s.view.naps

-- ---- where a call may go on

-- there is a lock of this number
abbrev pub HasLockNumber : Situation → ℕ → Type 0
HasLockNumber s n = n < s.size

-- between two calls, with a lock that it may want
pub record IsTryable (s : Situation) (n : ℕ) : Type 0 where
  pub rests : is_at_rest s.turn ≡ true
  pub lacks : is_among n s.held ≡ false
  pub there : HasLockNumber s n
  pub wants : can_want s ≡ true

-- ... with one that it doesn't hold, and may not want, or that isn't there
pub record IsBarred (s : Situation) (n : ℕ) : Type 0 where
  pub rests : is_at_rest s.turn ≡ true
  pub lacks : is_among n s.held ≡ false
  pub why : (¬ HasLockNumber s n) ⊎ (can_want s ≡ false)

-- ... with one that it holds
pub record IsHeldAtRest (s : Situation) (n : ℕ) : Type 0 where
  pub rests : is_at_rest s.turn ≡ true
  pub holds : is_among n s.held ≡ true

-- it may want no lock now, or there is none of this number
abbrev pub CanNotTry : Situation → ℕ → Type 0
CanNotTry s n = (wants_now s ≡ false) ⊎ (s.size ≤ n)

abbrev pub answer_of_none : NoTry → Answer
answer_of_none no.Busy = Busy
answer_of_none no.Already = Already
answer_of_none no.Invalid = Invalid

-- why it can't try to take this lock
abbrev pub IsTryRefusal : Situation → ℕ → Answer → Type 0
IsTryRefusal s n Busy = is_at_rest s.turn ≡ false
IsTryRefusal s n Already = IsHeldAtRest s n
IsTryRefusal s n Invalid = IsBarred s n
IsTryRefusal s n _ = ⊥

-- it has just tried this lock in vain, and may want it
pub record HasJustLost (n : ℕ) (s : Situation) : Type 0 where
  pub rests : is_at_rest s.turn ≡ true
  pub there : HasLockNumber s n
  pub want : MayWant n s.view

-- what one try came to, of a lock that it may want if it doesn't hold it
abbrev pub HasTriedAsIs : Situation → ℕ → Taking → Situation → Type 0
HasTriedAsIs s n try.Took s' = IsTryable s n × HasLock s n s'
HasTriedAsIs s n try.Had s' = IsHeldAtRest s n × (s' ≡ s)
HasTriedAsIs s n try.Missed s' = IsTryable s n × TriedInVain s s' × HasJustLost n s'

-- it has to back off: by its own step, for an older context of stamp k, which its view shows; and it holds a lock
pub record HasToBackOff (s : Situation) (n k : ℕ) (s' : Situation) : Type 0 where
  pub context : 0 < k
  pub older : k < s.stamp
  pub holds : 1 ≤ length s.held
  pub met : HasMet n k s'.view
  pub now : s' ≡ record s { turn = at.Rests; told = Some n; deaths = s.deaths + 1; wakes = s'.wakes; view = s'.view }

-- ---- contexts

abbrev pub IsBeginAnswer : Situation → Answer → Situation → Type 0
IsBeginAnswer s Done s' = (is_at_rest s.turn ≡ true) × (s.stamp ≡ 0) × (s.held ≡ []) × (1 ≤ s.left) × (1 ≤ s'.stamp) × StaysOut s s'
    × (s' ≡ record s { left = s.left - 1; draws = s.draws + 1; stamp = s'.stamp; is_done = false; told = None; view = s'.view })
IsBeginAnswer s Busy s' = (is_at_rest s.turn ≡ false) × (s' ≡ s)
IsBeginAnswer s Invalid s' = (is_at_rest s.turn ≡ true) × ((s.stamp ≢ 0) ⊎ (s.held ≢ [])) × (s' ≡ s)
IsBeginAnswer s NoSpace s' = (is_at_rest s.turn ≡ true) × (s.stamp ≡ 0) × (s.held ≡ []) × (((s.left ≡ 0) × (s' ≡ s))
    ⊎ ((16 < s.seats) × (1 ≤ s.left) × (s' ≡ record s { left = s.left - 1; draws = s.draws + 1 })))
IsBeginAnswer s _ s' = ⊥

abbrev pub IsDoneAnswer : Situation → Answer → Situation → Type 0
IsDoneAnswer s Done s' = (is_at_rest s.turn ≡ true) × (s.stamp ≢ 0) × (s.is_done ≡ false) × (s' ≡ record s { is_done = true })
IsDoneAnswer s Busy s' = (is_at_rest s.turn ≡ false) × (s' ≡ s)
IsDoneAnswer s Invalid s' = (is_at_rest s.turn ≡ true) × ((s.stamp ≡ 0) ⊎ (s.is_done ≡ true)) × (s' ≡ s)
IsDoneAnswer s _ s' = ⊥

abbrev pub IsEndAnswer : Situation → Answer → Situation → Type 0
IsEndAnswer s Done s' = (is_at_rest s.turn ≡ true) × (s.stamp ≢ 0) × (s.held ≡ []) × StaysOut s s'
    × (s' ≡ record s { stamp = 0; is_done = false; told = None; view = s'.view })
IsEndAnswer s Busy s' = (is_at_rest s.turn ≡ false) × (s' ≡ s)
IsEndAnswer s Invalid s' = (is_at_rest s.turn ≡ true) × ((s.stamp ≡ 0) ⊎ (s.held ≢ [])) × (s' ≡ s)
IsEndAnswer s _ s' = ⊥

-- ---- taking a lock

-- the first step: it has the lock, or its call stands outside the guard of the lock
abbrev pub IsLockAnswer : Situation → ℕ → Waits → Answer → Situation → Type 0
IsLockAnswer s n waits Done s' = IsTryable s n × HasLock s n s'
IsLockAnswer s n waits Again s' = IsTryable s n × StaysOut s s'
    × (s' ≡ record s { turn = at.Wants n Came waits; tries = s.tries + 1; view = s'.view })
IsLockAnswer s n waits Busy s' = (is_at_rest s.turn ≡ false) × (s' ≡ s)
IsLockAnswer s n waits Already s' = IsHeldAtRest s n × (s' ≡ s)
IsLockAnswer s n waits Invalid s' = IsBarred s n × (s' ≡ s)
IsLockAnswer s n waits _ s' = ⊥

-- one try
abbrev pub IsTryAnswer : Situation → ℕ → Answer → Situation → Type 0
IsTryAnswer s n Done s' = IsTryable s n × HasLock s n s'
IsTryAnswer s n Busy s' = ((is_at_rest s.turn ≡ false) × (s' ≡ s)) ⊎ (IsTryable s n × TriedInVain s s')
IsTryAnswer s n Already s' = IsHeldAtRest s n × (s' ≡ s)
IsTryAnswer s n Invalid s' = IsBarred s n × (s' ≡ s)
IsTryAnswer s n _ s' = ⊥

-- the contended lock, because of which it backed off, with nothing held
abbrev pub IsSlowAnswer : Situation → ℕ → Waits → Answer → Situation → Type 0
IsSlowAnswer s n waits Done s' = (s.told ≡ Some n) × (s.held ≡ []) × IsTryable s n × HasLock s n s'
IsSlowAnswer s n waits Again s' = (s.told ≡ Some n) × (s.held ≡ []) × IsLockAnswer s n waits Again s'
IsSlowAnswer s n waits Busy s' = (is_at_rest s.turn ≡ false) × (s' ≡ s)
IsSlowAnswer s n waits Invalid s' = (is_at_rest s.turn ≡ true) × ((s.told ≢ Some n) ⊎ ((s.held ≢ []) ⊎ IsBarred s n)) × (s' ≡ s)
IsSlowAnswer s n waits _ s' = ⊥

-- ---- waiting for it, in further steps

-- its call looks at the lock, inside the guard
abbrev pub IsLooking : ℕ → Waits → Turn → Type 0
IsLooking n waits (at.Looks m arrival w) = (m ≡ n) × (w ≡ waits)
IsLooking n waits _ = ⊥

-- a look, after which it may be inside the guard still; or a try in vain to go inside. A call that waits until a cancel is
-- told to sleep only once it found none inside that guard.
abbrev pub IsWaitAnswer : Situation → ℕ → Waits → Answer → Situation → Type 0
IsWaitAnswer s n waits Awaits s' = IsShutOut s s'
IsWaitAnswer s n waits Again s' = IsLooking n waits s'.turn × (s'.view.inside ≡ suc n) × MadeProgress s s'
    × WakesCondemned s s' × (s' ≡ record s { turn = s'.turn; wakes = s'.wakes; view = s'.view })
IsWaitAnswer s n waits Sleeps s' = WakesCondemned s s' × MadeProgress s s'
    × (waits ≡ UntilCancelled → s'.view.uncancelled ≡ true)
    × (s' ≡ record s { turn = at.Wants n Woken waits; wakes = s'.wakes; view = s'.view })
IsWaitAnswer s n waits Done s' = WakesCondemned s s'
    × (s' ≡ record s {
      turn = at.Rests;
      held = s.held ++ n ∷ [];
      told = None;
      takes = s.takes + 1;
      wakes = s'.wakes;
      view = s'.view;
    })
IsWaitAnswer s n waits (Deadlk k) s' = WakesCondemned s s' × HasToBackOff s n k s'
IsWaitAnswer s n waits (Interrupted by) s' = WakesCondemned s s' × (waits ≡ UntilCancelled)
    × (s' ≡ record s { turn = at.Rests; interrupted = (n, by) ∷ s.interrupted; wakes = s'.wakes; view = s'.view })
IsWaitAnswer s n waits _ s' = ⊥

-- ---- releasing a lock

abbrev pub IsUnlockAnswer : Situation → ℕ → Answer → Situation → Type 0
IsUnlockAnswer s n Done s' = IsHeldAtRest s n × HasGivenBack s n s'
IsUnlockAnswer s n Again s' = IsHeldAtRest s n × HasKept s s' × HasTurned s (at.Gives n) s'
IsUnlockAnswer s n Busy s' = (is_at_rest s.turn ≡ false) × (s' ≡ s)
IsUnlockAnswer s n Invalid s' = (is_at_rest s.turn ≡ true) × (is_among n s.held ≡ false) × (s' ≡ s)
IsUnlockAnswer s n _ s' = ⊥

-- one try to release a lock: it is released; or it isn't held, or its word told more than its owner
abbrev pub IsGivenOrKept : Situation → ℕ → Bool → Situation → Type 0
IsGivenOrKept s n true s' = IsUnlockAnswer s n Done s' × (s'.view.kept ≡ s.view.kept)
IsGivenOrKept s n false s' = StaysOut s s' × (s' ≡ record s { view = s'.view }) × ((is_among n s.held ≡ false) ⊎ HasKept s s')

-- it has released these, the last one first, each by one step
abbrev pub HasReleased : Situation → List ℕ → Situation → Type 0
HasReleased s [] s' = StaysOut s s' × (s' ≡ record s { view = s'.view })
HasReleased s (n ∷ ns) s' = (t : Situation) × HasReleased s ns t × IsUnlockAnswer t n Done s'

-- nothing has changed but what it holds, and what it knows of the locks
abbrev pub HasSomeHeld : Situation → Situation → Type 0
HasSomeHeld s s' = s' ≡ record s { held = s'.held; view = s'.view }

-- why the last one of these isn't released: it isn't held, or one try to release it by one step was in vain
abbrev pub HasStoppedAt : Situation → List ℕ → Situation → Type 0
HasStoppedAt s kept s' = (more : List ℕ) × (n : ℕ) × (kept ≡ more ++ n ∷ []) × ((is_among n s'.held ≡ false) ⊎ HasKept s s')

-- of this list it has released all but so many, from the end on, and as many as it could
abbrev pub IsEachAnswer : Situation → List ℕ → ℕ → Situation → Type 0
IsEachAnswer s ns left s' = (kept gone : List ℕ) × (ns ≡ kept ++ gone) × (length kept ≡ left) × HasReleased s gone s'
    × ((kept ≡ []) ⊎ HasStoppedAt s kept s')

-- a further turn of it: it tried in vain to go inside the guard; or the lock is released
abbrev pub IsGiveAnswer : Situation → ℕ → Answer → Situation → Type 0
IsGiveAnswer s n Awaits s' = IsShutOut s s'
IsGiveAnswer s n Done s' = WakesHeir s s'
    × (s' ≡ record s { turn = at.Rests; held = without n s.held; wakes = s'.wakes; view = s'.view })
IsGiveAnswer s n _ s' = ⊥

-- ---- the next step, whatever call is on its way

abbrev pub IsNextAnswer : Turn → Situation → Answer → Situation → Type 0
IsNextAnswer at.Rests s a s' = (a ≡ Invalid) × (s' ≡ s)
IsNextAnswer (at.Wants n arrival waits) s a s' = IsWaitAnswer s n waits a s'
IsNextAnswer (at.Looks n arrival waits) s a s' = IsWaitAnswer s n waits a s'
IsNextAnswer (at.Gives n) s a s' = IsGiveAnswer s n a s'

-- ---- what it holds

-- whether it holds the lock
abbrev pub IsHasAnswer : Situation → ℕ → Answer → Situation → Type 0
IsHasAnswer s n Done s' = IsHeldAtRest s n × (s' ≡ s)
IsHasAnswer s n Busy s' = (is_at_rest s.turn ≡ false) × (s' ≡ s)
IsHasAnswer s n Invalid s' = (is_at_rest s.turn ≡ true) × (is_among n s.held ≡ false) × (s' ≡ s)
IsHasAnswer s n _ s' = ⊥

-- by one look it saw this number in the lock's word, which its view says then; and nothing else has changed
abbrev pub HasLookedAt : Situation → ℕ → ℕ → Situation → Type 0
HasLookedAt s n word s' = s' ≡ record s { view = has_seen_word s.view n word }

-- Whether the number that it saw in the lock's word is 0, as it is where nobody has the lock or waits for it; then it didn't hold
-- it itself.
abbrev pub IsFreeAnswer : Situation → ℕ → Answer → Situation → Type 0
IsFreeAnswer s n Done s' = (is_at_rest s.turn ≡ true) × HasLockNumber s n × (is_among n s.held ≡ false) × HasLookedAt s n 0 s'
IsFreeAnswer s n Busy s' = ((is_at_rest s.turn ≡ false) × (s' ≡ s))
    ⊎ ((is_at_rest s.turn ≡ true) × HasLockNumber s n × ((word : ℕ) × (word ≢ 0) × HasLookedAt s n word s'))
IsFreeAnswer s n Invalid s' = (is_at_rest s.turn ≡ true) × (s.size ≤ n) × (s' ≡ s)
IsFreeAnswer s n _ s' = ⊥

-- ---- whom to wake, and calling off

-- a seat that has a mark, which it has no more then; or none has
abbrev pub IsMarkTaken : List ℕ → Option ℕ → List ℕ → Type 0
IsMarkTaken marks None marks' = ((u : ℕ) → ¬ IsMarked marks u) × (marks' ≡ marks)
IsMarkTaken marks (Some u) marks' = IsMarked marks u × (is_marked marks' u ≡ false)
    × ((t : ℕ) → t ≢ u → is_marked marks' t ≡ is_marked marks t)

-- Each seat is named once, and none while this one is inside a guard.
abbrev pub IsWakeAnswer : Situation → Option ℕ → Situation → Type 0
IsWakeAnswer s who s' = (is_inside s.turn ≡ true → (who ≡ None) × (s' ≡ s))
    × (is_inside s.turn ≡ false → IsMarkTaken s.wakes who s'.wakes × (s' ≡ record s { wakes = s'.wakes }))

-- the wait of seat u, one of the world, is cancelled; or its one step found a cancel pending already, which is counted
abbrev pub IsCancelAnswer : Situation → ℕ → Answer → Situation → Type 0
IsCancelAnswer s u Done s' = (is_at_rest s.turn ≡ true) × (u < s.seats) × WakesAlso s u s'
    × (s' ≡ record s { cancelled = u ∷ s.cancelled; wakes = s'.wakes })
IsCancelAnswer s u Already s' = (is_at_rest s.turn ≡ true) × (u < s.seats)
    × (s' ≡ record s { pendings = s.pendings + 1; view = found_pending s.view })
IsCancelAnswer s u Busy s' = (is_at_rest s.turn ≡ false) × (s' ≡ s)
IsCancelAnswer s u Invalid s' = (is_at_rest s.turn ≡ true) × (s.seats ≤ u) × (s' ≡ s)
IsCancelAnswer s u _ s' = ⊥

-- From now on the wait of its call heeds cancels, whatever that call said; and nothing else has changed.
abbrev pub IsHeedAnswer : Situation → Answer → Situation → Type 0
IsHeedAnswer s Done s' = (waits_outside s.turn ≡ true) × (s' ≡ record s { turn = until_cancelled s.turn })
IsHeedAnswer s Busy s' = (is_at_rest s.turn ≡ false) × (waits_outside s.turn ≡ false) × (s' ≡ s)
IsHeedAnswer s Invalid s' = (is_at_rest s.turn ≡ true) × (s' ≡ s)
IsHeedAnswer s _ s' = ⊥

-- nothing is on its way, it has no context and holds nothing
abbrev pub HasNothing : Situation → Type 0
HasNothing s = (is_at_rest s.turn ≡ true) × (s.stamp ≡ 0) × (s.held ≡ [])
