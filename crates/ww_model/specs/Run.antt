-- Runs of events.
use Rattle.std.specs.Prelude.{ℕ, List, [], ◌∷◌}
use Rattle.ww_queue.specs.declared.kind.Kind.{Kind}
use Rattle.ww_model.specs.declared.event.Event.{Event}
use Rattle.ww_model.specs.State.{State, start}
use Rattle.ww_model.specs.Event.{Possible, after}
use Rattle.ww_model.specs.Lawful.{IsLawful}

-- the state after some events
abbrev pub state_after : State → List Event → State
state_after c [] = c
state_after c (e ∷ es) = state_after (after c e) es

-- the events are possible in turn
abbrev pub IsRun : State → List Event → Type 0
IsRun c [] = Unit {0}
IsRun c (e ∷ es) = Possible c e × IsRun (after c e) es

-- a state that a run from the start comes to
pub data Reached : State → Type 0 where
  at_start : (kind : Kind) (locks seats : ℕ) → Reached (start kind locks seats)
  further : (c : State) (e : Event) → Reached c → Possible c e → Reached (after c e)

-- every state of a run is lawful
abbrev pub RunsAreLawful : Type 0
RunsAreLawful = (kind : Kind) (locks seats : ℕ) (events : List Event) → IsRun (start kind locks seats) events →
    IsLawful (state_after (start kind locks seats) events)
