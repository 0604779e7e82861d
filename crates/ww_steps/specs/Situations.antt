-- What a contract sees of a desk.
use Rattle.std.specs.Prelude.{ℕ, ◌≡◌, ◌≢◌, ◌==◌, ◌&&◌, ◌⊎◌, ◌∷◌, [], Bool, true, false, List, Option, Some, None, is_none, if◌then◌else◌}
use Rattle.atomic_table.specs.Seated.{TableId}
use Rattle.ww_queue.specs.declared.kind.Kind.{Kind}
use Rattle.ww_view.specs.declared.view.View.{View}
use Rattle.ww_seat.specs.declared.waits.Waits.TheVariants.{UntilCancelled}
use Rattle.ww_steps.specs.declared.turn.Turn.{Turn}
use Rattle.ww_steps.specs.declared.turn.Turn.TheVariants.{Rests, Wants, Looks, Gives}

-- Its world: the table; how many locks and seats that has, and of which kind; its number there; how many contexts it may still
-- begin, and how many it has begun; its stamp, 0 without a context; whether its context is done; the locks that it holds,
-- each new one the last; the contended lock, if it has to back off; where its call stands; which seats it has
-- to wake, a mark for each seat, 64 in a word; how often it tried to take a lock at once, took one, and had to back off; the seats whose
-- wait it cancelled, the last one first, and how often it found a cancel pending where it would set one; each time that
-- its own wait was cancelled, the last one first: for which lock, and by which seat; and what its seat knows of the locks.
pub record Situation : Type 0 where
  pub home : TableId
  pub size : ℕ
  pub seats : ℕ
  pub kind : Kind
  pub caller : ℕ
  pub left : ℕ
  pub draws : ℕ
  pub stamp : ℕ
  pub is_done : Bool
  pub held : List ℕ
  pub told : Option ℕ
  pub turn : Turn
  pub wakes : List ℕ
  pub tries : ℕ
  pub takes : ℕ
  pub deaths : ℕ
  pub cancelled : List ℕ
  pub pendings : ℕ
  pub interrupted : List (ℕ × ℕ)
  pub view : View

-- between two calls
abbrev pub is_at_rest : Turn → Bool
is_at_rest Rests = true
is_at_rest (Wants n arrival waits) = false
is_at_rest (Looks n arrival waits) = false
is_at_rest (Gives n) = false

-- inside a guard
abbrev pub is_inside : Turn → Bool
is_inside Rests = false
is_inside (Wants n arrival waits) = false
is_inside (Looks n arrival waits) = true
is_inside (Gives n) = false

-- it waits for a lock, outside the guards
abbrev pub waits_outside : Turn → Bool
waits_outside Rests = false
waits_outside (Wants n arrival waits) = true
waits_outside (Looks n arrival waits) = false
waits_outside (Gives n) = false

-- the same wait, which heeds cancels
abbrev pub until_cancelled : Turn → Turn
until_cancelled Rests = Rests
until_cancelled (Wants n arrival waits) = Wants n arrival UntilCancelled
until_cancelled (Looks n arrival waits) = Looks n arrival waits
until_cancelled (Gives n) = Gives n

abbrev pub is_empty : List ℕ → Bool
is_empty [] = true
is_empty (n ∷ ns) = false

-- It may want a lock: its context isn't done; and where it holds locks it has a context, which wasn't told to back off.
abbrev pub can_want : Situation → Bool
can_want s = if s.is_done then false else (if is_empty s.held then true else (if s.stamp == 0 then false else is_none s.told))

-- ... and it is between two calls
abbrev pub wants_now : Situation → Bool
wants_now s = is_at_rest s.turn && can_want s

-- ---- what a caller may know of it, so that its next call looks at nothing else

-- between two calls, without a context or a lock, and it may begin one
pub record IsReady (s : Situation) : Type 0 where
  pub left : s.left ≢ 0
  pub rests : is_at_rest s.turn ≡ true
  pub no_context : s.stamp ≡ 0
  pub bare : s.held ≡ []
  pub goes_on : s.is_done ≡ false
  pub untold : s.told ≡ None

-- between two calls, and it may want a lock: where it holds none it has no context, or one that nobody has signed, since it
-- has just begun
pub record IsPlain (s : Situation) : Type 0 where
  pub rests : is_at_rest s.turn ≡ true
  pub wants : can_want s ≡ true
  pub untold : s.told ≡ None
  pub unsigned : s.held ≡ [] → (s.stamp ≡ 0) ⊎ (s.view.sign ≡ Some 0)

-- between two calls, with a context that has released all that it held
pub record HasReleasedAll (s : Situation) : Type 0 where
  pub rests : is_at_rest s.turn ≡ true
  pub context : s.stamp ≢ 0
  pub bare : s.held ≡ []
  pub goes_on : s.is_done ≡ false
  pub untold : s.told ≡ None
