-- Retry loops: what the driver of a desk does in ww_until_all_locked, in each of the states of c/lock/loop.c.
use Rattle.std.specs.Prelude.{ℕ, suc, ◌≡◌, ◌≢◌, ◌<◌, ◌≤◌, ◌⊎◌, ◌==◌, ◌||◌, ◌++◌, ◌∷◌, [], Bool, true, false, List, length, Option, Some, None, if◌then◌else◌}
use Rattle.ww_plain.specs.Numbers.{is_among}
use Rattle.ww_queue.specs.declared.kind.Kind.TheVariants.{WoundWait, WaitDie}
use Rattle.ww_model.specs.declared.event.Event.TheVariants.{Fast, Join, Take, Die, End, Leave}
use Rattle.ww_model.specs.declared.state.Holder.TheVariants.{Taken}
use Rattle.ww_model.specs.State.{OwnsNone}
use Rattle.ww_view.specs.View.{owns}
use Rattle.ww_invariant.specs.declared.cells.Start.{Start}
use Rattle.ww_laws.specs.Scene.{Step, performs}
use Rattle.ww_laws.specs.Premises.{InTheEnd, Wants, WaitsForEver, IsOldestActive, IsOver, BacksOff, TakesContendedFirst}
use Rattle.ww_refines.specs.Moment.{core, view}
use Rattle.ww_steps.specs.declared.turn.Turn.{Turn}
use Rattle.ww_steps.specs.declared.turn.Turn.TheVariants as at
use Rattle.ww_steps.specs.declared.turn.Answer.{Answer}
use Rattle.ww_steps.specs.declared.turn.Answer.TheVariants.{Done, Already, Deadlk}
use Rattle.ww_steps.specs.Situations.{Situation, is_at_rest}
use Rattle.ww_callers.specs.Stages.{Stage}
use Rattle.ww_callers.specs.Deeds.{Call, begin, done, end, lock, try_lock, lock_slow, go_on, has, is_free, outlook, is_wounded, cancel, heed, Deed, steps, answers}
use Rattle.ww_callers.specs.Drives.{IsEndlessDrive}
use Rattle.ww_loops.specs.Contexts.{as_scenes, steps_by, AllAreServed}
use Rattle.ww_loops.specs.Calls.{AllKnowTheirSeats}

-- ---- which lock a call is for

-- the lock at which a call waits, in its further steps
abbrev pub waits_at : Turn → Option ℕ
waits_at at.Rests = None
waits_at (at.Wants n arrival waits) = Some n
waits_at (at.Looks n arrival waits) = Some n
waits_at (at.Gives n) = None

-- the lock that a call is to take, where it is to take one, and the desk's last call left its turn so
abbrev pub lock_for : Call → Turn → Option ℕ
lock_for (lock n waits) turn = Some n
lock_for (try_lock n) turn = Some n
lock_for (lock_slow n waits) turn = Some n
lock_for go_on turn = waits_at turn
lock_for _ turn = None

-- the call of desk d that is on its way at i answers so at j
pub record AnswersAt {key : Start} (stage : ℕ → Stage key) (deed : ℕ → Deed) (d i j : ℕ) (call : Call) (a : Answer) : Type 0 where
  pub later : i < j
  pub amid : (k : ℕ) → i ≤ k → k ≤ j → (stage k).calling d ≡ true
  pub answer : deed j ≡ answers d call a

-- Each call answers. It wants no lock but the one that it is for; if it has to die it says so, at that lock, and wants none
-- after that; and only `end` ends a context.
pub record KeepsToItsCalls {key : Start} (stage : ℕ → Stage key) (deed : ℕ → Deed) (d : ℕ) : Type 0 where
  pub ends : (i : ℕ) → (stage i).calling d ≡ true → (j : ℕ) × (call : Call) × (a : Answer) ×
      ((deed i ≡ answers d call a) ⊎ AnswersAt stage deed d i j call a)
  pub wants : (i j n : ℕ) (x : Step) (call : Call) (a : Answer) → deed i ≡ steps d (Some x) → Wants d n x →
      AnswersAt stage deed d i j call a → lock_for call ((stage j).desk d).turn ≡ Some n
  pub dies : (i j m : ℕ) (call : Call) (a : Answer) → deed i ≡ steps d (Some (performs (Die d m))) →
      AnswersAt stage deed d i j call a → (lock_for call ((stage j).desk d).turn ≡ Some m) × ((k : ℕ) × (a ≡ Deadlk k))
  pub dies_last : (h i j m n : ℕ) (x : Step) (call : Call) (a : Answer) → h < i →
      deed h ≡ steps d (Some (performs (Die d m))) → deed i ≡ steps d (Some x) → Wants d n x → i < j →
      ¬ AnswersAt stage deed d h j call a
  pub end_ends : (i j : ℕ) (call : Call) (a : Answer) → deed i ≡ steps d (Some (performs (End d))) →
      AnswersAt stage deed d i j call a → call ≡ end

-- ---- the states of a loop

-- Where a context stands, with the names of c/lock/loop.c. `outside`: its loop has ended, or there is no context. `owes`: it waited
-- for this lock and has it, and the body of the loop hasn't asked for it since. `told`: it got EDEADLK at this lock, and has to back
-- off. `first`: it has backed off, and takes this lock before any other.
pub data LoopState : Type 0 where
  outside : LoopState
  ease : LoopState
  owes : (m : ℕ) → LoopState
  told : (m : ℕ) → LoopState
  first : (m : ℕ) → LoopState

-- it owes this lock
abbrev pub is_owed : LoopState → ℕ → Bool
is_owed (owes m) n = m == n
is_owed _ n = false

-- a lock call of the body returned 0, or that the context has the lock
abbrev pub after_lock : LoopState → ℕ → Answer → LoopState
after_lock (first m) n Done = owes m
after_lock (owes m) n Already = if m == n then ease else owes m
after_lock ph n (Deadlk k) = told n
after_lock ph n a = ph

-- the phase after a call for this lock, or for none, that answered so
abbrev pub phase_after : LoopState → Call → Option ℕ → Answer → LoopState
phase_after ph call (Some n) a = after_lock ph n a
phase_after outside begin None Done = ease
phase_after ph call None a = ph

-- What the body has asked for in this round, and has. The lock for which a loop waits first its body hasn't asked for.
abbrev pub asked_after : LoopState → List ℕ → Option ℕ → Answer → List ℕ
asked_after ph had None a = had
asked_after (first m) had (Some n) a = []
asked_after ph had (Some n) Done = had ++ n ∷ []
asked_after ph had (Some n) Already = had ++ n ∷ []
asked_after ph had (Some n) (Deadlk k) = []
asked_after ph had (Some n) a = had

-- a call that neither takes a lock nor releases one, nor begins or ends a context
abbrev pub is_look : Call → Bool
is_look done = true
is_look (has n) = true
is_look (is_free n) = true
is_look (outlook n) = true
is_look is_wounded = true
is_look (cancel u) = true
is_look heed = true
is_look _ = false

-- Which calls a loop makes, for this lock or for none: in a round lock calls, and looks; with EDEADLK no lock call; after that lock
-- calls of the contended lock alone.
abbrev pub MayCall : LoopState → Call → Option ℕ → Type 0
MayCall outside call (Some n) = ⊥
MayCall outside call None = Unit {0}
MayCall ease call (Some n) = Unit {0}
MayCall ease call None = is_look call ≡ true
MayCall (owes m) call (Some n) = Unit {0}
MayCall (owes m) call None = is_look call ≡ true
MayCall (told m) call (Some n) = ⊥
MayCall (told m) call None = call ≢ end
MayCall (first m) call (Some n) = n ≡ m
MayCall (first m) call None = is_look call ≡ true

-- Between two calls: a context begins a further loop, and holds nothing; a body asks for the lock that it owes; the loop has backed
-- off, and holds nothing; or a round is at its end without EDEADLK, and the loop too.
abbrev pub Goes : Situation → LoopState → List ℕ → LoopState → List ℕ → Type 0
Goes s outside had next asked = (s.held ≡ []) × (s.stamp ≢ 0) × (next ≡ ease) × (asked ≡ [])
Goes s ease had next asked = (next ≡ outside) × (asked ≡ [])
Goes s (owes m) had next asked = ((next ≡ ease) × (asked ≡ had ++ m ∷ [])) ⊎ ((next ≡ outside) × (asked ≡ []))
Goes s (told m) had next asked = (s.held ≡ []) × (next ≡ first m) × (asked ≡ [])
Goes s _ had next asked = ⊥

-- it holds what the body asked for, and what it owes, and nothing else
abbrev pub HoldsJust : Situation → LoopState → List ℕ → Type 0
HoldsJust s ph asked = (n : ℕ) → is_among n s.held ≡ (is_among n asked || is_owed ph n)

-- what the desk holds where the drive begins, by its phase
abbrev pub FitsLoop : Situation → LoopState → List ℕ → Type 0
FitsLoop s outside asked = asked ≡ []
FitsLoop s ease asked = HoldsJust s ease asked
FitsLoop s (owes m) asked = HoldsJust s (owes m) asked
FitsLoop s (told m) asked = asked ≡ []
FitsLoop s (first m) asked = (asked ≡ []) × (s.held ≡ [])

module _ {key : Start} (stage : ℕ → Stage key) (deed : ℕ → Deed) (phase : ℕ → ℕ → LoopState) (asked : ℕ → ℕ → List ℕ) where
  -- The desk's call answers, as its loop may call; or the phase stays; or, between two calls, it goes on as above.
  pub record AnswersInLoop (d i : ℕ) (call : Call) (a : Answer) : Type 0 where
    pub may : MayCall (phase i d) call (lock_for call ((stage i).desk d).turn)
    pub next : phase (suc i) d ≡ phase_after (phase i d) call (lock_for call ((stage i).desk d).turn) a
    pub asks : asked (suc i) d ≡ asked_after (phase i d) (asked i d) (lock_for call ((stage i).desk d).turn) a

  pub record StaysInLoop (d i : ℕ) : Type 0 where
    pub next : phase (suc i) d ≡ phase i d
    pub asks : asked (suc i) d ≡ asked i d

  pub record GoesInLoop (d i : ℕ) : Type 0 where
    pub idle : (stage i).calling d ≡ false
    pub rests : is_at_rest ((stage i).desk d).turn ≡ true
    pub goes : Goes ((stage i).desk d) (phase i d) (asked i d) (phase (suc i) d) (asked (suc i) d)

  -- the desk locks in loops
  pub record LoopsBy (d : ℕ) : Type 0 where
    pub begins : FitsLoop ((stage 0).desk d) (phase 0 d) (asked 0 d)
    pub context : phase 0 d ≢ outside → 0 < (core (stage 0).moment).stamp d
    pub when_answers : (i : ℕ) (call : Call) (a : Answer) → deed i ≡ answers d call a → AnswersInLoop d i call a
    pub otherwise : (i : ℕ) → ((call : Call) (a : Answer) → deed i ≢ answers d call a) → StaysInLoop d i ⊎ GoesInLoop d i

  -- ---- what is asked of programs

  -- a round is over: its loop has ended, its context dies, or it waits forever
  abbrev pub IsRoundOver : ℕ → ℕ → Type 0
  IsRoundOver d j = (phase j d ≡ outside) ⊎ (((m : ℕ) × (deed j ≡ steps d (Some (performs (Die d m)))))
      ⊎ WaitsForEver (as_scenes stage) (steps_by key deed) d j)

  -- from i on, as long as the context of the desk goes on, that is in no loop
  abbrev pub LoopsNoMore : ℕ → ℕ → Type 0
  LoopsNoMore d i = (k : ℕ) → i ≤ k → (core (stage k).moment).stamp d ≡ (core (stage i).moment).stamp d → phase k d ≡ outside

  -- No round asks for more than so many locks; a round asks for one more in the end, or is over; a context that has to back off does
  -- so in the end; and once its loop has ended it releases in the end each lock that it has.
  pub record RoundsGoOn (d : ℕ) : Type 0 where
    pub most : ℕ
    pub finite : (i : ℕ) → length (asked i d) ≤ most
    pub asks : (i : ℕ) → phase i d ≢ outside → ((m : ℕ) → phase i d ≢ told m) →
        InTheEnd i (λ j. (length (asked i d) < length (asked j d)) ⊎ IsRoundOver d j)
    pub backs_off : (i m : ℕ) → phase i d ≡ told m → InTheEnd i (λ j. phase j d ≡ first m)
    pub releases : (i n : ℕ) → phase i d ≡ outside → (core (stage i).moment).owner n ≡ Taken d →
        InTheEnd i (λ j. (core (stage j).moment).owner n ≢ Taken d)

  -- Besides, a context begins finitely many loops, and is over in the end if it begins no further one.
  pub record ProgramGoesOn (d : ℕ) : Type 0 where
    pub rounds : RoundsGoOn d
    pub few_loops : (i : ℕ) → 0 < (core (stage i).moment).stamp d →
        InTheEnd i (λ j. (k : ℕ) → j ≤ k → (core (stage k).moment).stamp d ≡ (core (stage i).moment).stamp d →
        phase k d ≡ outside → phase (suc k) d ≡ outside)
    pub ends : (i : ℕ) → 0 < (core (stage i).moment).stamp d → LoopsNoMore d i →
        InTheEnd i (IsOver (as_scenes stage) (steps_by key deed) d)

  -- The loop ends at j, and its context owns exactly what its last round asked for, and what it owes, if the last round didn't ask
  -- for that.
  pub record LoopEnds (d j : ℕ) : Type 0 where
    pub runs : phase j d ≢ outside
    pub ends : phase (suc j) d ≡ outside
    pub exact : (n : ℕ) → owns (view (stage j).moment d) n ≡ (is_among n (asked j d) || is_owed (phase j d) n)

-- ---- the theorems

-- Desks that keep to their calls, and whose drivers lock in loops.
pub record AreLoops {key : Start} (stage : ℕ → Stage key) (deed : ℕ → Deed) (phase : ℕ → ℕ → LoopState) (asked : ℕ → ℕ → List ℕ)
    : Type 0 where
  pub endless : IsEndlessDrive stage deed
  pub know : AllKnowTheirSeats stage
  pub keeps : (d : ℕ) → d < key.seats → KeepsToItsCalls stage deed d
  pub loops : (d : ℕ) → d < key.seats → LoopsBy stage deed phase asked d

-- So they back off, and take the contended lock first.
pub record BackOffFirst {key : Start} (stage : ℕ → Stage key) (deed : ℕ → Deed) : Type 0 where
  pub backs_off : BacksOff (as_scenes stage) (steps_by key deed)
  pub takes_first : TakesContendedFirst (as_scenes stage) (steps_by key deed)

abbrev pub LoopsBackOff : Type 0
LoopsBackOff = (key : Start) (stage : ℕ → Stage key) (deed : ℕ → Deed) (phase : ℕ → ℕ → LoopState) (asked : ℕ → ℕ → List ℕ) →
    AreLoops stage deed phase asked → BackOffFirst stage deed

-- In Wait-Die each loop ends, if drivers are scheduled, programs go on, and no round asks for endlessly many locks.
abbrev pub LoopsEnd : Type 0
LoopsEnd = (key : Start) (stage : ℕ → Stage key) (deed : ℕ → Deed) (phase : ℕ → ℕ → LoopState) (asked : ℕ → ℕ → List ℕ) →
    AreLoops stage deed phase asked → AllAreServed stage deed →
    ((d : ℕ) → d < key.seats → ProgramGoesOn stage deed phase asked d) → (i d : ℕ) → d < key.seats →
    (core (stage i).moment).kind ≡ WaitDie → phase i d ≢ outside → InTheEnd i (LoopEnds stage deed phase asked d)

-- From j on the context waits for a lock, and has none: it waits for its first one, forever.
abbrev pub WaitsForItsFirst : {key : Start} → (ℕ → Stage key) → (ℕ → Deed) → ℕ → ℕ → Type 0
WaitsForItsFirst {key = key} stage deed d j =
    OwnsNone (core (stage j).moment) d × WaitsForEver (as_scenes stage) (steps_by key deed) d j

-- The desk is in a loop, its context is the oldest of those that don't rest on, and nobody has signed that context.
pub record IsOldestInLoop {key : Start} (stage : ℕ → Stage key) (deed : ℕ → Deed) (phase : ℕ → ℕ → LoopState) (d i : ℕ) : Type 0 where
  pub runs : phase i d ≢ outside
  pub oldest : IsOldestActive (as_scenes stage) (steps_by key deed) d i
  pub unsigned : (core (stage i).moment).sign d ≡ 0

-- In Wound-Wait the loop of such a desk ends, unless its context waits forever for its first lock, or is cancelled.
abbrev pub OldestLoopEnds : Type 0
OldestLoopEnds = (key : Start) (stage : ℕ → Stage key) (deed : ℕ → Deed) (phase : ℕ → ℕ → LoopState) (asked : ℕ → ℕ → List ℕ) →
    AreLoops stage deed phase asked → AllAreServed stage deed →
    ((d : ℕ) → d < key.seats → RoundsGoOn stage deed phase asked d) → (i d : ℕ) → d < key.seats →
    (core (stage i).moment).kind ≡ WoundWait → IsOldestInLoop stage deed phase d i →
    InTheEnd i (λ j. LoopEnds stage deed phase asked d j ⊎ (WaitsForItsFirst stage deed d j
    ⊎ ((n : ℕ) × (deed j ≡ steps d (Some (performs (Leave d n)))))))
