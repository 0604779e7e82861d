-- None of this speaks of nothing: a drive that keeps what the laws of endless drives ask, and begins with what they speak of.
use Rattle.std.specs.Prelude.{ℕ, suc, ◌≡◌, ◌<◌, ◌≤◌, true, List, []}
use Rattle.ww_queue.specs.declared.kind.Kind.{Kind}
use Rattle.ww_model.specs.Waits.{IsOneOf}
use Rattle.ww_invariant.specs.declared.cells.Start.{Start}
use Rattle.ww_invariant.specs.Rule.{first_graph, places_for}
use Rattle.ww_laws.specs.GoingOn.{AreDeadlocked}
use Rattle.ww_refines.specs.Moment.{core, view}
use Rattle.ww_refines.specs.Deadlocks.{HoldersGoOnThere}
use Rattle.ww_steps.specs.declared.turn.Answer.{Answer}
use Rattle.ww_steps.specs.declared.turn.Answer.TheVariants.{Done, Busy, Deadlk}
use Rattle.ww_steps.specs.Situations.{is_at_rest}
use Rattle.ww_callers.specs.Stages.{Stage}
use Rattle.ww_callers.specs.Deeds.{is_free, Deed, answers, go_on}
use Rattle.ww_callers.specs.Drives.{IsEndlessDrive, IsServed, AnswersLater}

-- Opening a world makes such a table: its locks guard no node, and are more than 64, of which it packs the words.
pub record IsOfWorld (key : Start) : Type 0 where
  pub bare : first_graph key ≡ []
  pub packed : 64 < key.locks
  pub few_locks : key.locks ≤ 16777216
  pub places : key.places ≡ places_for key.seats
  pub few_seats : key.seats < 4096

-- An endless drive at a world's table of the kind begins with a deadlock, of seats whose drivers are scheduled; and a call
-- of one of them answers EDEADLK.
pub record HasDeadlockDriven (kind : Kind) : Type 0 where
  pub key : Start
  pub stage : ℕ → Stage key
  pub deed : ℕ → Deed
  pub seats : List ℕ
  pub of_kind : key.kind ≡ kind
  pub world : IsOfWorld key
  pub endless : IsEndlessDrive stage deed
  pub served : (s : ℕ) → IsOneOf s seats → IsServed stage deed s
  pub deadlocked : AreDeadlocked (core (stage 0).moment) seats
  pub told : (j s k : ℕ) × IsOneOf s seats × (deed j ≡ answers s go_on (Deadlk k))

-- There is such a drive in each kind.
abbrev pub DeadlocksAreInEndlessDrives : Type 0
DeadlocksAreInEndlessDrives = (kind : Kind) → HasDeadlockDriven kind

-- In an endless drive at a world's table of the kind the drivers of all seats are scheduled, and holders go on; and a seat
-- waits at first.
pub record HasWaitDriven (kind : Kind) : Type 0 where
  pub key : Start
  pub stage : ℕ → Stage key
  pub deed : ℕ → Deed
  pub seat : ℕ
  pub lock : ℕ
  pub of_kind : key.kind ≡ kind
  pub world : IsOfWorld key
  pub low : seat < key.seats
  pub endless : IsEndlessDrive stage deed
  pub served : (s : ℕ) → s < key.seats → IsServed stage deed s
  pub go_on : HoldersGoOnThere (λ j. (stage j).moment)
  pub waits : (view (stage 0).moment seat).waits ≡ suc lock

-- There is such a drive in each kind.
abbrev pub WaitsAreInEndlessDrives : Type 0
WaitsAreInEndlessDrives = (kind : Kind) → HasWaitDriven kind

-- In an endless drive at a world's table of the kind a desk without a lock call on its way is asked whether a lock is free, and
-- answers this.
pub record HasLookDriven (kind : Kind) (a : Answer) : Type 0 where
  pub key : Start
  pub stage : ℕ → Stage key
  pub deed : ℕ → Deed
  pub of_kind : key.kind ≡ kind
  pub world : IsOfWorld key
  pub endless : IsEndlessDrive stage deed
  pub look : (d n i j : ℕ) × AnswersLater deed d i j (is_free n) a × (is_at_rest ((stage j).desk d).turn ≡ true)

-- There is such a drive in each kind, for either answer.
abbrev pub LooksAreInDrives : Type 0
LooksAreInDrives = (kind : Kind) → HasLookDriven kind Done × HasLookDriven kind Busy
