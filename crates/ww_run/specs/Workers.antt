-- What workers do with scripts, each with a pass of its own.
use Rattle.std.specs.Prelude.{ℕ, suc, ◌≡◌, ◌<◌, ◌≤◌, ◌+◌, ◌∷◌, ◌++◌, List, [], length, map, slice_index_or, false, alloc_error, Result, Ok, Err, IfOk}
use Rattle.std.specs.List.{AllByRecursion}
use Rattle.std.specs.Global.{Vec}
use Rattle.ww_plain.specs.History.{Recorded}
use Rattle.ww_lock.specs.Holding.{Holding, Setting, IsAtHome, by_of}
use Rattle.ww_lock.specs.declared.prepared.Receipt.{Receipt}
use Rattle.ww_txn.specs.declared.transacting.TxnFault.{TxnFault}
use Rattle.ww_txn.specs.declared.transacting.TxnFault.TheVariants.{PassSpent, Already, Interrupted}
use Rattle.ww_txn.specs.declared.transacting.TxnFault.TheVariants as txn
use Rattle.ww_plain.specs.declared.node.TheConstants.{PORTS}
use Rattle.ww_script_parts.specs.declared.acts.Act.{Act}
use Rattle.ww_script.specs.Acts.{Action, IsActWithin}
use Rattle.ww_script.specs.Scripts.{ranges_of}
use Rattle.ww_script.specs.Said.{Said, answered, cancelling, said_of}
use Rattle.ww_script.specs.Cancels.{cancelled_in, interrupters_in, times}
use Rattle.ww_script.specs.Outcome.{IsUnrecorded, IsActRecorded, IsAnswered}
use Rattle.ww_outcome.specs.declared.outcome.ScriptAnswer.{ScriptAnswer}
use Rattle.ww_outcome.specs.declared.outcome.ScriptAnswer.TheVariants as answer
use Rattle.std.specs.declared.alloc.AllocError.{AllocError}
use Rattle.ww_run.specs.declared.workers.RunFault.{RunFault}
use Rattle.ww_run.specs.declared.workers.RunFault.TheVariants.{NoMemory, NoThread}
use Rattle.ww_run.specs.declared.worker.Work.{Work}

-- the number of the fault's line
abbrev pub run_number : RunFault → ℕ
run_number NoMemory = 16
run_number NoThread = 19

-- what is answered where a transaction came to this
abbrev pub IsAnswerTo : Result Receipt TxnFault → Result ScriptAnswer AllocError → Type 0
IsAnswerTo (Ok receipt) told = told ≡ Ok (answer.Reply receipt.reply)
IsAnswerTo (Err (Already n)) told = told ≡ Ok (answer.Already n)
IsAnswerTo (Err (Interrupted script)) told = told ≡ Ok (answer.Interrupted script)
IsAnswerTo (Err txn.NoMemory) told = told ≡ Err alloc_error
IsAnswerTo (Err PassSpent) told = ⊥

-- the same pass, with a budget of one less at most
pub record IsAfter (s a : Holding) : Type 0 where
  pub same_caller : a.caller ≡ s.caller
  pub budget : s.left ≤ a.left + 1

-- An act with an answer of the plain graph added its record to the log, as the next. Any other left it as it was.
abbrev pub AddsAnswered : Holding → Action → Said → Holding → Type 0
AddsAnswered s deed (answered answer) a =
    (place : ℕ) × (r : Recorded) × (a.own ≡ s.own ++ (place, r) ∷ []) × IsActRecorded deed (length s.own) answer r
AddsAnswered s deed said a = (a.own ≡ s.own) × IsUnrecorded said deed

-- how many acts found a cancel pending where they would set one
abbrev pub pendings_in : List Said → ℕ
pendings_in (cancelling false ∷ saids) = suc (pendings_in saids)
pendings_in (_ ∷ saids) = pendings_in saids
pendings_in [] = 0

-- What the act was told is what the pass says of it: its record, the script that it cancelled, or that it found a cancel
-- of it pending, and the script that called it off.
pub record IsSaidBy (s : Holding) (deed : Action) (said : Said) (a : Holding) : Type 0 where
  pub own : AddsAnswered s deed said a
  pub cancelled : a.cancelled ≡ cancelled_in (deed ∷ []) (said ∷ []) ++ s.cancelled
  pub pendings : a.pendings ≡ s.pendings + pendings_in (said ∷ [])
  pub interrupted : by_of a.interrupted ≡ interrupters_in (said ∷ []) ++ by_of s.interrupted

-- The pass of this caller, which has done nothing yet, and a script for it: there is budget for each of its acts, and
-- each suits the world.
pub record IsReadyToRun (w : Setting) (number : ℕ) (deeds : List Action) (s : Holding) : Type 0 where
  pub home : IsAtHome s w
  pub same_caller : s.caller ≡ number
  pub nothing : s.own ≡ []
  pub none_cancelled : s.cancelled ≡ []
  pub none_pending : s.pendings ≡ 0
  pub uninterrupted : s.interrupted ≡ []
  pub budget : length deeds ≤ s.left
  pub suit : AllByRecursion (IsActWithin (ranges_of (length w.first) PORTS w.passes)) deeds

-- The pass's log is exactly what the acts came to that were told this, and it counts what they cancelled or found
-- pending, and by whom they were cancelled.
pub record HasRun (deeds : List Action) (saids : List Said) (s : Holding) : Type 0 where
  pub answered : IsAnswered 0 deeds saids s.own
  pub cancelled : (victim : ℕ) → times victim s.cancelled ≡ times victim (cancelled_in deeds saids)
  pub pendings : s.pendings ≡ pendings_in saids
  pub interrupted : (script : ℕ) → times script (by_of s.interrupted) ≡ times script (interrupters_in saids)

-- What the worker of this caller returns. If it didn't stop, its pass says of the script what that was told.
pub record IsWork (w : Setting) (number : ℕ) (deeds : List Action) (work : Work) : Type 0 where
  pub home : IsAtHome work.pass w
  pub same_caller : work.pass.caller ≡ number
  pub told : IfOk work.told (λ answers. HasRun deeds (map said_of answers.items) work.pass)

-- none of the scripts has more acts than this
abbrev pub AreShort : ℕ → List (Vec Act) → Type 0
AreShort most scripts = (i : ℕ) (d : Vec Act) → i < length scripts → length (slice_index_or scripts i d).items ≤ most

-- the same, of scripts as lists
abbrev pub AreNoLonger : ℕ → List (List Action) → Type 0
AreNoLonger most scripts = (i : ℕ) (t : List Action) → i < length scripts → length (slice_index_or scripts i t) ≤ most

-- how many acts the longest script has, and 1 if none has any: nothing less would do
pub record IsBudget (scripts : List (List Action)) (budget : ℕ) : Type 0 where
  pub some : 1 ≤ budget
  pub enough : AreNoLonger budget scripts
  pub least : (other : ℕ) → 1 ≤ other → AreNoLonger other scripts → budget ≤ other

-- there is a pass for each script, of that budget, and both are ready for one another
pub record AreReady (w : Setting) (scripts : List (List Action)) (passes : List Holding) : Type 0 where
  pub count : length passes ≡ length scripts
  pub budget : (i : ℕ) (d : Holding) → i < length passes → IsBudget scripts (slice_index_or passes i d).left
  pub each : (i : ℕ) (t : List Action) (d : Holding) → i < length scripts
      → IsReadyToRun w i (slice_index_or scripts i t) (slice_index_or passes i d)

-- a worker for each script returned what it came to
pub record AreWorks (w : Setting) (scripts : List (List Action)) (works : List Work) : Type 0 where
  pub count : length works ≡ length scripts
  pub each : (i : ℕ) (t : List Action) (d : Work) → i < length scripts
      → IsWork w i (slice_index_or scripts i t) (slice_index_or works i d)

-- each worker's pass, and what its script was told: none of them stopped
abbrev pub AreParted : List Work → List Holding → List (Vec ScriptAnswer) → Type 0
AreParted [] [] [] = Unit {0}
AreParted (work ∷ works) (pass ∷ passes) (answers ∷ replies) =
    (work.pass ≡ pass) × (work.told ≡ Ok answers) × AreParted works passes replies
AreParted _ _ _ = ⊥
