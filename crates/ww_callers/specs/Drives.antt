-- What holds of desks that are driven so.
use Rattle.std.specs.Prelude.{ℕ, suc, ◌≡◌, ◌≢◌, ◌<◌, ◌⊎◌, true, false, List, [], Option, Some, None, Ok}
use Rattle.ww_model.specs.declared.event.Event.TheVariants.{Die, Leave}
use Rattle.ww_model.specs.Waits.{IsOneOf}
use Rattle.atomic_table.specs.Seated.{TableId}
use Rattle.ww_model.specs.declared.state.Holder.TheVariants.{Nobody}
use Rattle.ww_model.specs.State.{State, start, word_of}
use Rattle.ww_invariant.specs.declared.cells.Start.{Start}
use Rattle.ww_invariant.specs.Rule.{St, Ruled, first_part, places_for}
use Rattle.ww_laws.specs.Scene.{Step, performs}
use Rattle.ww_laws.specs.Scene as scene
use Rattle.ww_laws.specs.Premises.{InTheEnd}
use Rattle.ww_laws.specs.GoingOn.{AreDeadlocked}
use Rattle.ww_refines.specs.Moment.{core, view, HasToWake, Acts, HasLeftToWait}
use Rattle.ww_refines.specs.Tables.{IsToldOf, TableMoment, moment_of}
use Rattle.ww_refines.specs.Moves.{Follows}
use Rattle.ww_refines.specs.Naps.{ArePlaysOf, is_to_sleep, HaveNone, SleepsLast}
use Rattle.ww_refines.specs.Runs.{IsOfRun, HasToWaitThere}
use Rattle.ww_refines.specs.Endless.{IsEndless}
use Rattle.ww_refines.specs.Deadlocks.{IsScheduledThere, HoldersGoOnThere, EndsSomeWaitThere}
use Rattle.ww_seat.specs.Marks.{IsMarked}
use Rattle.ww_steps.specs.declared.turn.Answer.{Answer}
use Rattle.ww_steps.specs.declared.turn.Answer.TheVariants.{Done, Busy, Sleeps}
use Rattle.ww_steps.specs.declared.outlook.Outlook.{Outlook}
use Rattle.ww_steps.specs.Situations.{Situation, is_at_rest}
use Rattle.ww_steps.specs.Outlooks.{IsOutlookAnswer, shown_by}
use Rattle.ww_steps.specs.Opened.{fresh}
use Rattle.ww_callers.specs.Stages.{Stage, IsDesk, StandsOutside, IsFirstStage}
use Rattle.ww_callers.specs.Deeds.{Call, is_free, outlook, HasDone, Deed, calls, steps, answers, wakes, parks, rises, Accounts, Clauses, DoesBy, IsDrivenBy, IsDriven, SaidOfDesks}

-- ---- the first stage

-- a stage of this table at which nothing was called yet, with the desks that opening gives, each of which may begin so many contexts
pub record Opens (key : Start) (s : St) (home : TableId) (left : ℕ) : Type 0 where
  pub moment : TableMoment key
  pub table : moment.table ≡ s
  pub stage : Stage key
  pub shown : stage.moment ≡ moment_of moment
  pub desks : (d : ℕ) → stage.desk d ≡ fresh home key.locks key.seats key.kind left d
  pub first : IsFirstStage stage

-- Opening makes a table, and cuts a seat off for each desk. As long as none of them did anything, the table tells of each what
-- it told at first (`IsNew` of ww_table has that of the seats as they are made, in `me`): then it is that of such a stage.
abbrev pub OpenedWorldsBegin : Type 0
OpenedWorldsBegin = (key : Start) (s : St) (r : Ruled key s) (home : TableId) (left : ℕ) →
    ((t : ℕ) → t < key.seats → IsToldOf s t (first_part key.kind key.locks key.places t)) →
    r.core ≡ start key.kind key.locks key.places → key.places ≡ places_for key.seats → Opens key s home left

-- what is asked of a desk that answers is true of each
abbrev pub DesksStandOutside : Type 0
DesksStandOutside = (s : Situation) → IsDesk s → StandsOutside s

-- ---- what a call did, in which order

-- as the answer has it: it left a guard as a waiter, and made no event after that; or it left none so
abbrev pub SleepsAtItsEnd : Answer → List (Option Step) → Type 0
SleepsAtItsEnd Sleeps xs = SleepsLast xs
SleepsAtItsEnd _ xs = HaveNone is_to_sleep xs

-- Whatever the seat of a desk did at the table during a call, by what the clauses of that call say afterwards.
abbrev pub CallsSleepLast : Type 0
CallsSleepLast = (key : Start) (call : Call) (s s' : Situation) (a : Answer) (xs : List (Option Step)) → HasDone call s a s' →
    IsDesk s' → ArePlaysOf key s.view xs s'.view → SleepsAtItsEnd a xs

-- ---- drives are runs

-- the move of threads that a deed is
abbrev pub thread_move : Deed → Option Step
thread_move (steps d x) = x
thread_move (wakes d u) = Some (scene.wakes d u)
thread_move (parks d) = Some (scene.falls_asleep d)
thread_move (rises d) = Some (scene.rises d)
thread_move _ = None

-- Each deed of a drive is a move of threads, or leaves all as it is; so each stage shows a moment of a run of threads.
pub record DrivesAreRuns : Type 0 where
  pub runs : (key : Start) (g : Stage key) → IsDrivenBy Accounts g → IsOfRun g.moment
  pub moves : (key : Start) (g g' : Stage key) (x : Deed) → IsDrivenBy Accounts g → DoesBy Accounts g g' x →
      Follows g.moment g'.moment (thread_move x)

-- ---- no wake-up is lost

-- desk t has marked the seat to be woken, or named it and given no token since; or is amid a call, in which it came to owe it
-- a wake
abbrev pub IsDueBy : {key : Start} → Stage key → ℕ → ℕ → Type 0
IsDueBy g t s = IsMarked (g.desk t).wakes s ⊎ ((g.named t s ≡ true) ⊎ ((g.calling t ≡ true) × HasToWake g.moment t s))

-- the seat has a token, or a desk whose thread doesn't sleep has yet to see to its waking
abbrev pub IsAlertedByDesks : {key : Start} → Stage key → ℕ → Type 0
IsAlertedByDesks {key = key} g s = (g.moment.token s ≡ true)
    ⊎ ((t : ℕ) × (t < key.seats) × (g.moment.asleep t ≡ false) × IsDueBy g t s)

-- each seat that sleeps, and neither was woken nor is about to be, has to wait
abbrev pub NoWakeIsLostInDrives : Type 0
NoWakeIsLostInDrives = (key : Start) (g : Stage key) → IsDrivenBy Accounts g → (s : ℕ) → s < key.seats → g.moment.asleep s ≡ true →
    IsAlertedByDesks g s ⊎ HasToWaitThere g.moment s

-- ---- a deadlock is no standstill

-- Where all of these sleep, none has a token, and nobody has yet to see to its waking, they aren't deadlocked.
abbrev pub NoStandstillInDrives : Type 0
NoStandstillInDrives = (key : Start) (g : Stage key) → IsDrivenBy Accounts g → (seats : List ℕ) →
    ((s : ℕ) → IsOneOf s seats → (g.moment.asleep s ≡ true) × (¬ IsAlertedByDesks g s)) → ¬ AreDeadlocked (core g.moment) seats

-- ---- nobody sleeps forever in vain

-- a drive that goes on forever, if only by halts
pub record IsEndlessDriveBy (says : SaidOfDesks) {key : Start} (stage : ℕ → Stage key) (deed : ℕ → Deed) : Type 0 where
  pub begins : IsDrivenBy says (stage 0)
  pub goes_on : (i : ℕ) → DoesBy says (stage i) (stage (suc i)) (deed i)

-- ... where all that the clauses of calls say is said of desks
abbrev pub IsEndlessDrive : {key : Start} → (ℕ → Stage key) → (ℕ → Deed) → Type 0
IsEndlessDrive stage deed = IsEndlessDriveBy Clauses stage deed

-- Whatever desk has yet to see to a waking makes it in the end, and whoever sleeps with a token rises in the end.
pub record WakesArriveByDesks {key : Start} (stage : ℕ → Stage key) (deed : ℕ → Deed) : Type 0 where
  pub made : (i t s : ℕ) → t < key.seats → IsDueBy (stage i) t s → InTheEnd i (λ j. deed j ≡ wakes t s)
  pub heard : (i s : ℕ) → s < key.seats → (stage i).moment.token s ≡ true → (stage i).moment.asleep s ≡ true →
      InTheEnd i (λ j. deed j ≡ rises s)

-- each seat that sleeps without having to is awake later
abbrev pub NobodySleepsInVainInDrives : Type 0
NobodySleepsInVainInDrives = (key : Start) (stage : ℕ → Stage key) (deed : ℕ → Deed) → IsEndlessDriveBy Accounts stage deed →
    WakesArriveByDesks stage deed → (i s : ℕ) → s < key.seats → (stage i).moment.asleep s ≡ true →
    ¬ HasToWaitThere (stage i).moment s → InTheEnd i (λ j. (stage j).moment.asleep s ≡ false)

-- ---- no deadlock lasts

-- The seat's driver is scheduled while the seat waits. Whatever desk has yet to see to its waking wakes it in the end, and it
-- rises in the end where it sleeps with a token. Once it left a guard as a waiter it falls asleep, or rises, later; where it
-- stands in a list and acts it is inside the guard later; and where it is inside the guard it is outside of it later, or
-- waits no more.
pub record IsServed {key : Start} (stage : ℕ → Stage key) (deed : ℕ → Deed) (s : ℕ) : Type 0 where
  pub woken : (i t : ℕ) → t < key.seats → IsDueBy (stage i) t s → InTheEnd i (λ j. deed j ≡ wakes t s)
  pub rises : (i : ℕ) → (stage i).moment.token s ≡ true → (stage i).moment.asleep s ≡ true →
      InTheEnd i (λ j. deed j ≡ rises s)
  pub settles : (i : ℕ) → HasLeftToWait (stage i).moment s false → InTheEnd i (λ j. ¬ HasLeftToWait (stage j).moment s false)
  pub looks : (i n : ℕ) → (view (stage i).moment s).waits ≡ suc n → Acts (stage i).moment s →
      InTheEnd i (λ j. (view (stage j).moment s).inside ≡ suc n)
  pub leaves : (i n : ℕ) → (view (stage i).moment s).waits ≡ suc n → (view (stage i).moment s).inside ≡ suc n →
      InTheEnd i (λ j. ((view (stage j).moment s).inside ≢ suc n) ⊎ ((view (stage j).moment s).waits ≢ suc n))

-- Whenever seats are deadlocked, and their drivers scheduled, one of them gets EDEADLK or is cancelled in the end, whatever
-- other drivers do.
abbrev pub NoDeadlockLastsInDrives : Type 0
NoDeadlockLastsInDrives = (key : Start) (stage : ℕ → Stage key) (deed : ℕ → Deed) → IsEndlessDriveBy Accounts stage deed →
    (i : ℕ) (seats : List ℕ) → ((s : ℕ) → IsOneOf s seats → IsServed stage deed s) →
    AreDeadlocked (core (stage i).moment) seats →
    InTheEnd i (λ j. (s : ℕ) × IsOneOf s seats × ((n : ℕ) ×
    ((deed j ≡ steps s (Some (performs (Die s n)))) ⊎ (deed j ≡ steps s (Some (performs (Leave s n)))))))

-- ---- whatever else holds of endless runs

-- An endless drive is an endless run of threads, in which each seat is scheduled whose driver is. So whatever holds of these
-- holds of drives.
pub record DrivesRunOn : Type 0 where
  pub endless : (key : Start) (stage : ℕ → Stage key) (deed : ℕ → Deed) → IsEndlessDriveBy Accounts stage deed →
      IsEndless (λ j. (stage j).moment) (λ j. thread_move (deed j))
  pub scheduled : (key : Start) (stage : ℕ → Stage key) (deed : ℕ → Deed) → IsEndlessDriveBy Accounts stage deed →
      (s : ℕ) → IsServed stage deed s → IsScheduledThere (λ j. (stage j).moment) (λ j. thread_move (deed j)) s

-- ---- waits end

-- Whenever a seat waits, some wait ends later, if all drivers are scheduled, and whoever has a lock and waits for none
-- releases it in the end or comes to wait.
abbrev pub WaitsEndInDrives : Type 0
WaitsEndInDrives = (key : Start) (stage : ℕ → Stage key) (deed : ℕ → Deed) → IsEndlessDriveBy Accounts stage deed →
    ((s : ℕ) → s < key.seats → IsServed stage deed s) → HoldersGoOnThere (λ j. (stage j).moment) →
    (i s n : ℕ) → s < key.seats → (view (stage i).moment s).waits ≡ suc n →
    InTheEnd i (λ j. EndsSomeWaitThere (stage j).moment (thread_move (deed j)))

-- ---- calls keep the account

-- By its clauses each call keeps the account of wakes and sleeps. So what holds wherever no more than that is said of desks holds
-- of all whose calls do what their clauses say.
pub record DrivesKeepAccount : Type 0 where
  pub calls : (call : Call) (s s' : Situation) (a : Answer) → HasDone call s a s' → Accounts.calls call s a s'
  pub stages : (key : Start) (g : Stage key) → IsDriven g → IsDrivenBy Accounts g
  pub endless : (key : Start) (stage : ℕ → Stage key) (deed : ℕ → Deed) → IsEndlessDrive stage deed →
      IsEndlessDriveBy Accounts stage deed

-- ---- what looks saw

-- nobody has the lock, and nobody waits for it
abbrev pub IsFreeThere : State → ℕ → Type 0
IsFreeThere c n = (c.owner n ≡ Nobody) × (c.queue n ≡ [])

-- desk d is called at i, and answers so at j: that call, or a later one
pub record AnswersLater (deed : ℕ → Deed) (d i j : ℕ) (call : Call) (a : Answer) : Type 0 where
  pub called : deed i ≡ calls d
  pub later : i < j
  pub answered : deed j ≡ answers d call a

-- at some stage between i and j this was so of the locks
abbrev pub WasSo : {key : Start} → (ℕ → Stage key) → ℕ → ℕ → (State → Type 0) → Type 0
WasSo stage i j P = (k : ℕ) × (i < k) × (k < j) × P (core (stage k).moment)

-- What a desk answers about a lock was true at some stage between the call and the answer: that it is free, that it isn't, unless
-- a lock call of the desk is on its way, and whose it is.
pub record LooksAreTrue : Type 0 where
  pub free : (key : Start) (stage : ℕ → Stage key) (deed : ℕ → Deed) → IsEndlessDrive stage deed → (d n i j : ℕ) →
      AnswersLater deed d i j (is_free n) Done → WasSo stage i j (λ c. IsFreeThere c n)
  pub busy : (key : Start) (stage : ℕ → Stage key) (deed : ℕ → Deed) → IsEndlessDrive stage deed → (d n i j : ℕ) →
      AnswersLater deed d i j (is_free n) Busy → is_at_rest ((stage j).desk d).turn ≡ true →
      WasSo stage i j (λ c. ¬ IsFreeThere c n)
  pub whose : (key : Start) (stage : ℕ → Stage key) (deed : ℕ → Deed) → IsEndlessDrive stage deed → (d n i j : ℕ) (a : Answer)
      (seen : Outlook) → AnswersLater deed d i j (outlook n) a →
      IsOutlookAnswer ((stage j).desk d) n (Ok seen) ((stage (suc j)).desk d) →
      WasSo stage i j (λ c. seen ≡ shown_by ((stage j).desk d).stamp (word_of c n))
