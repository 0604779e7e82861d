-- Which event of some is not possible.
use Rattle.std.specs.Prelude.{ℕ, ◌≡◌, List, Some, slice_get, take}
use Rattle.ww_model.specs.declared.event.Event.{Event}
use Rattle.ww_model.specs.declared.run.ReplayFault.{ReplayFault}
use Rattle.ww_model.specs.declared.run.ReplayFault.TheVariants.{Impossible, NoMemory}
use Rattle.ww_model.specs.State.{State}
use Rattle.ww_model.specs.Event.{Possible}
use Rattle.ww_model.specs.Run.{state_after, IsRun}

-- the events before this one are possible in turn, and it isn't possible after them
pub record IsFirstImpossible (c : State) (events : List Event) (i : ℕ) : Type 0 where
  pub before : IsRun c (take i events)
  pub event : Event
  pub there : slice_get events i ≡ Some event
  pub impossible : ¬ Possible (state_after c (take i events)) event

-- of lack of memory nothing is said
abbrev pub IsReplayFault : State → List Event → ReplayFault → Type 0
IsReplayFault c events (Impossible i) = IsFirstImpossible c events i
IsReplayFault c events NoMemory = Unit {0}
