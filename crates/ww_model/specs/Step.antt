-- What a step does to a core.
use Rattle.std.specs.Prelude.{◌≡◌, Result, Ok, Err}
use Rattle.ww_model.specs.declared.event.Event.{Event}
use Rattle.ww_model.specs.declared.event.Answer.{Answer}
use Rattle.ww_model.specs.declared.event.NotPossible.{NotPossible}
use Rattle.ww_model.specs.Event.{Possible, after, answer}
use Rattle.ww_model.specs.Run.{Reached}
use Rattle.ww_model.specs.Snapshot.{Snapshot, state_of}

-- the event was possible, and this is the state after it and its answer
pub record Steps (old : Snapshot) (e : Event) (new : Snapshot) (a : Answer) : Type 0 where
  pub possible : Possible (state_of old) e
  pub answer : a ≡ answer (state_of old) e
  pub state : state_of new ≡ after (state_of old) e
  pub reached : Reached (state_of new)

-- the event was not possible, and nothing has changed
pub record Refuses (old : Snapshot) (e : Event) (new : Snapshot) : Type 0 where
  pub impossible : ¬ Possible (state_of old) e
  pub same : new ≡ old

-- ... whichever of the two it was
abbrev pub IsStep : Snapshot → Event → Snapshot → Result Answer NotPossible → Type 0
IsStep old e new (Ok a) = Steps old e new a
IsStep old e new (Err _) = Refuses old e new
