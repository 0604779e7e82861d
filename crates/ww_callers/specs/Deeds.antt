-- What desks do, and what is asked of the drivers that make their calls.
use Rattle.std.specs.Prelude.{ℕ, ◌≡◌, ◌<◌, ◌+◌, ◌-◌, Bool, true, false, List, Option, Some, Result}
use Rattle.ww_model.specs.State.{State, put}
use Rattle.ww_view.specs.declared.view.View.{View}
use Rattle.ww_invariant.specs.declared.cells.Start.{Start}
use Rattle.ww_laws.specs.Scene.{Step}
use Rattle.ww_invariant.specs.Rule.{wakes_owed}
use Rattle.ww_refines.specs.Moment.{Moment, core, view, Acts, HasLeftToWait}
use Rattle.ww_refines.specs.Tables.{NotesWhatStands}
use Rattle.ww_refines.specs.Moves.{StepsThere, Reads, Follows}
use Rattle.ww_refines.specs.Plays.{IsBy}
use Rattle.ww_seat.specs.Marks.{IsMarked}
use Rattle.ww_seat.specs.declared.waits.Waits.{Waits}
use Rattle.ww_steps.specs.declared.turn.Answer.{Answer}
use Rattle.ww_steps.specs.declared.turn.Answer.TheVariants.{Done, Sleeps}
use Rattle.ww_steps.specs.declared.outlook.Outlook.{Outlook}
use Rattle.ww_steps.specs.declared.outlook.NoOutlook.{NoOutlook}
use Rattle.ww_steps.specs.Situations.{Situation, is_inside}
use Rattle.ww_steps.specs.Answers.{Balances, BooksWakes, CountsNaps, HasSomeHeld, IsBeginAnswer, IsDoneAnswer, IsEndAnswer, IsLockAnswer, IsTryAnswer, IsSlowAnswer, IsNextAnswer, IsUnlockAnswer, IsEachAnswer, IsHasAnswer, IsFreeAnswer, IsCancelAnswer, IsHeedAnswer, IsWakeAnswer}
use Rattle.ww_steps.specs.Outlooks.{IsOutlookAnswer, IsWoundedAnswer}
use Rattle.ww_callers.specs.Stages.{Stage, StandsOutside, IsFirstStage}

-- ---- calls

-- the calls of a desk that make steps, with what they are given
pub data Call : Type 0 where
  begin : Call
  done : Call
  end : Call
  lock : (n : ℕ) (waits : Waits) → Call
  try_lock : (n : ℕ) → Call
  lock_slow : (n : ℕ) (waits : Waits) → Call
  go_on : Call
  unlock : (n : ℕ) → Call
  unlock_each : (ns : List ℕ) → Call
  has : (n : ℕ) → Call
  is_free : (n : ℕ) → Call
  outlook : (n : ℕ) → Call
  is_wounded : Call
  cancel : (u : ℕ) → Call
  heed : Call

-- what became of a desk by a call that answered this: the clauses of that call
abbrev pub HasDone : Call → Situation → Answer → Situation → Type 0
HasDone begin s a s' = IsBeginAnswer s a s'
HasDone done s a s' = IsDoneAnswer s a s'
HasDone end s a s' = IsEndAnswer s a s'
HasDone (lock n waits) s a s' = IsLockAnswer s n waits a s'
HasDone (try_lock n) s a s' = IsTryAnswer s n a s'
HasDone (lock_slow n waits) s a s' = IsSlowAnswer s n waits a s'
HasDone go_on s a s' = IsNextAnswer s.turn s a s' × BooksWakes s s' × CountsNaps s a s'
HasDone (unlock n) s a s' = IsUnlockAnswer s n a s'
HasDone (unlock_each ns) s a s' = (a ≡ Done) × ((left : ℕ) × IsEachAnswer s ns left s') × HasSomeHeld s s'
HasDone (has n) s a s' = IsHasAnswer s n a s'
HasDone (is_free n) s a s' = IsFreeAnswer s n a s'
HasDone (outlook n) s a s' = (a ≡ Done) × ((seen : Result Outlook NoOutlook) × IsOutlookAnswer s n seen s')
HasDone is_wounded s a s' = (a ≡ Done) × ((seen : Result Bool NoOutlook) × IsWoundedAnswer s seen s')
HasDone (cancel u) s a s' = IsCancelAnswer s u a s' × BooksWakes s s'
HasDone heed s a s' = IsHeedAnswer s a s'

-- What is said of desks: of each call, by what its desk was before, the answer, and what the desk is then; and of each step, by the
-- locks before it, and by what its seat knew before and knows then.
pub record SaidOfDesks : Type 1 where
  pub calls : Call → Situation → Answer → Situation → Type 0
  pub steps : Start → State → View → View → Type 0

-- no more than what waking and sleeping go by: after each call the account of wakes still balances, and the desk left a guard as a
-- waiter once if it is told to sleep, and otherwise not
abbrev pub Accounts : SaidOfDesks
Accounts = record { calls = λ call s a s'. Balances s s' × CountsNaps s a s'; steps = λ key c v v'. Unit {0} }

-- ... or all that the clauses of calls say, and that a view notes of the locks' words only what stands there
abbrev pub Clauses : SaidOfDesks
Clauses = record { calls = HasDone; steps = NotesWhatStands }

-- ---- deeds

-- A desk is called; makes a step at the table, or reads something there; answers. It names a seat to wake. Its driver gives a seat a
-- token; its thread falls asleep, and rises. Nothing happens.
pub data Deed : Type 0 where
  calls : (d : ℕ) → Deed
  steps : (d : ℕ) (x : Option Step) → Deed
  reads : (d : ℕ) → Deed
  answers : (d : ℕ) (call : Call) (a : Answer) → Deed
  names : (d u : ℕ) → Deed
  wakes : (d u : ℕ) → Deed
  parks : (d : ℕ) → Deed
  rises : (d : ℕ) → Deed
  halts : Deed

-- the answer tells its caller to sleep
abbrev pub is_sleeps : Answer → Bool
is_sleeps Sleeps = true
is_sleeps _ = false

-- seat d makes a step at the table, which is to be this one of the scene, or none
pub record IsStepThere {key : Start} (m m' : Moment key) (d : ℕ) (x : Option Step) : Type 0 where
  pub there : StepsThere m m' d
  pub by : IsBy d x
  pub follows : Follows m m' x

-- the moment once desk d gave seat u a token, for all that it owes that seat
abbrev pub woken : {key : Start} → Moment key → ℕ → ℕ → Moment key
woken m d u = record m {
  rung = put m.rung d (put (m.rung d) u (m.rung d u + (wakes_owed (m.part d) u - m.rung d u)));
  token = put m.token u true;
}

-- ... once desk d sleeps
abbrev pub slept : {key : Start} → Moment key → ℕ → Moment key
slept m d = record m { asleep = put m.asleep d true }

-- ... once it has risen, and has taken its token if it has one
abbrev pub risen_then : {key : Start} → Moment key → ℕ → Moment key
risen_then m d = record m {
  risen = put m.risen d (m.risen d + 1);
  asleep = put m.asleep d false;
  token = put m.token d false;
}

module _ {key : Start} (g g' : Stage key) where
  -- ---- what is asked of a driver

  -- the desk is at its driver's hands: no call is on its way, and its thread doesn't sleep
  pub record IsAtHand (d : ℕ) : Type 0 where
    pub seat : d < key.seats
    pub idle : g.calling d ≡ false
    pub awake : g.moment.asleep d ≡ false

  -- a call begins, after an answer to sleep only once the thread has risen
  pub record Calls (d : ℕ) : Type 0 where
    pub at_hand : IsAtHand d
    pub rose : g.to_sleep d ≡ false
    pub now : g' ≡ record g { calling = put g.calling d true }

  -- the desk is asked whom to wake, and names this seat
  pub record Names (d u : ℕ) : Type 0 where
    pub at_hand : IsAtHand d
    pub answer : IsWakeAnswer (g.desk d) (Some u) (g'.desk d)
    pub now : g' ≡ record g { desk = put g.desk d (g'.desk d); named = put g.named d (put (g.named d) u true) }

  -- a seat is given a token, outside the guards: a seat that was named, or another
  pub record Wakes (d u : ℕ) : Type 0 where
    pub at_hand : IsAtHand d
    pub outside : is_inside (g.desk d).turn ≡ false
    pub now : g' ≡ record g { moment = woken g.moment d u; named = put g.named d (put (g.named d) u false) }

  -- The thread falls asleep: the desk told it so, has nobody to name, and each seat that was named has had a token.
  pub record Parks (d : ℕ) : Type 0 where
    pub at_hand : IsAtHand d
    pub told : g.to_sleep d ≡ true
    pub none_marked : (u : ℕ) → ¬ IsMarked (g.desk d).wakes u
    pub none_named : (u : ℕ) → g.named d u ≡ false
    pub now : g' ≡ record g { moment = slept g.moment d }

  -- the thread rises, by its token or by chance, or finds it needn't sleep
  pub record Rises (d : ℕ) : Type 0 where
    pub seat : d < key.seats
    pub told : g.to_sleep d ≡ true
    pub now : g' ≡ record g { moment = risen_then g.moment d; to_sleep = put g.to_sleep d false }

-- ---- what desks do

module _ (says : SaidOfDesks) {key : Start} (g g' : Stage key) where
  -- Amid a call the desk makes a step at the table, if the table lets its seat. Once it left a guard as a waiter it makes none in
  -- the same call, unless it only reads.
  pub record Steps (d : ℕ) (x : Option Step) : Type 0 where
    pub seat : d < key.seats
    pub calling : g.calling d ≡ true
    pub stays_up : (view g.moment d).naps ≡ (g.desk d).view.naps
    pub there : Acts g.moment d → IsStepThere g.moment g'.moment d x
    pub notes : says.steps key (core g.moment) (view g.moment d) (view g'.moment d)
    pub now : g' ≡ record g { moment = g'.moment }

  -- Amid a call, once it left a guard as a waiter, the desk reads something at the table, from outside the guards.
  pub record ReadsOnly (d : ℕ) : Type 0 where
    pub seat : d < key.seats
    pub calling : g.calling d ≡ true
    pub left : (view g.moment d).naps ≡ (g.desk d).view.naps + 1
    pub there : HasLeftToWait g.moment d false → Reads g.moment g'.moment d
    pub notes : says.steps key (core g.moment) (view g.moment d) (view g'.moment d)
    pub now : g' ≡ record g { moment = g'.moment }

  -- The call is at its end: this is said of it, and the desk is as each desk is, and knows of the locks what its seat knows.
  pub record Answers (d : ℕ) (call : Call) (a : Answer) : Type 0 where
    pub seat : d < key.seats
    pub calling : g.calling d ≡ true
    pub done : says.calls call (g.desk d) a (g'.desk d)
    pub outside : StandsOutside (g'.desk d)
    pub sees : (g'.desk d).view ≡ view g.moment d
    pub cancelled : (g'.desk d).cancelled ≡ (g.moment.part d).counts.cancelled
    pub now : g' ≡ record g {
      desk = put g.desk d (g'.desk d);
      calling = put g.calling d false;
      to_sleep = put g.to_sleep d (is_sleeps a);
    }

  -- ---- all of it

  abbrev pub DoesBy : Deed → Type 0
  DoesBy (calls d) = Calls g g' d
  DoesBy (steps d x) = Steps d x
  DoesBy (reads d) = ReadsOnly d
  DoesBy (answers d call a) = Answers d call a
  DoesBy (names d u) = Names g g' d u
  DoesBy (wakes d u) = Wakes g g' d u
  DoesBy (parks d) = Parks g g' d
  DoesBy (rises d) = Rises g g' d
  DoesBy halts = g' ≡ g

-- a stage to which some deeds lead from where nothing was called yet, if this is said of desks
pub data IsDrivenBy (says : SaidOfDesks) {key : Start} : Stage key → Type 0 where
  begins : (g : Stage key) → IsFirstStage g → IsDrivenBy says g
  goes_on : (g g' : Stage key) (x : Deed) → IsDrivenBy says g → DoesBy says g g' x → IsDrivenBy says g'

-- ... where all of it is said of them
abbrev pub Does : {key : Start} → Stage key → Stage key → Deed → Type 0
Does g g' = DoesBy Clauses g g'

abbrev pub IsDriven : {key : Start} → Stage key → Type 0
IsDriven g = IsDrivenBy Clauses g
