-- What comes of a schedule.
use Rattle.std.specs.Prelude.{ℕ, zero, suc, ◌≡◌, List, [], ◌∷◌, ◌++◌, take, Option, Some, None}
use Rattle.ww_model.specs.declared.state.Holder.{Holder}
use Rattle.ww_model.specs.declared.state.Holder.TheVariants.{Nobody, Taken, Handed}
use Rattle.ww_model.specs.declared.event.Event.{Event}
use Rattle.ww_model.specs.declared.event.Answer.{Answer}
use Rattle.ww_model.specs.State.{State, start}
use Rattle.ww_model.specs.Event.{after, answer}
use Rattle.ww_model.specs.Run.{state_after, IsRun}
use Rattle.ww_model.specs.Replay.{IsFirstImpossible}
use Rattle.ww_model.specs.Waits.{IsRing, IsLeastRing, FindsChosen, CondemnedOf}
use Rattle.ww_schedule.specs.Schedules.{Timetable}
use Rattle.ww_json.specs.Pieces.{numbered}
use Rattle.ww_schedule.specs.ScheduleText.{event_line, impossible_text, ring_line, condemned_line, lock_line, seat_line}

-- ---- what is found

-- the first event that isn't possible, if there is one
abbrev pub StopsAt : State → List Event → Option ℕ → Type 0
StopsAt c events None = IsRun c events
StopsAt c events (Some index) = IsFirstImpossible c events index

-- the events before the one of this index, or all of them
abbrev pub front : Option ℕ → List Event → List Event
front None events = events
front (Some index) events = take index events

-- the ring of the state, if there is one
abbrev pub RingOf : State → Option (List ℕ) → Type 0
RingOf c found = FindsChosen (IsRing c) (IsLeastRing c) found

-- the seats of a ring, if there is one
abbrev pub seats_of : Option (List ℕ) → List ℕ
seats_of None = []
seats_of (Some ring) = ring

-- ---- what is written of it

-- the answers of a run of events
abbrev pub answers_of : State → List Event → List Answer
answers_of c [] = []
answers_of c (e ∷ es) = answer c e ∷ answers_of (after c e) es

-- the stamp of an owner, 0 of none
abbrev pub owner_stamp : State → Holder → ℕ
owner_stamp c Nobody = 0
owner_stamp c (Taken seat) = c.stamp seat
owner_stamp c (Handed seat) = c.stamp seat

-- the line of a lock of the state
unfoldable pub line_of_lock : State → ℕ → List ℕ
line_of_lock c lock = lock_line lock (c.owner lock) (owner_stamp c (c.owner lock)) (c.queue lock)

-- the line of a seat of the state
unfoldable pub line_of_seat : State → ℕ → List ℕ
line_of_seat c seat = seat_line seat (c.stamp seat) (c.sign seat)

-- a text for each number below the count
abbrev pub below_count : ℕ → (ℕ → List ℕ) → List ℕ
below_count zero line = []
below_count (suc n) line = below_count n line ++ line n

-- the events up to the first that isn't possible, if there is one
unfoldable pub run_lines : State → List Event → Option ℕ → List ℕ
run_lines c events stop = numbered event_line 0 (answers_of c (front stop events)) ++ impossible_text stop

-- ---- together

-- what is found by a replay: the first event that isn't possible, and the ring and the condemned seat at the end
pub record Replay : Type 0 where
  pub stop : Option ℕ
  pub ring : Option (List ℕ)
  pub condemned : Option ℕ

-- the state before the first event
abbrev pub first_state : Timetable → State
first_state t = start t.kind t.locks t.seats

-- the state after the events that were possible
abbrev pub last_state : Timetable → Replay → State
last_state t r = state_after (first_state t) (front r.stop t.events)

-- the replay is the timetable's
pub record IsReplay (t : Timetable) (r : Replay) : Type 0 where
  pub stop : StopsAt (first_state t) t.events r.stop
  pub ring : RingOf (last_state t r) r.ring
  pub condemned : CondemnedOf (last_state t r) (seats_of r.ring) r.condemned

-- the lines of a replay
unfoldable pub replay_lines : Timetable → Replay → List ℕ
replay_lines t r =
    run_lines (first_state t) t.events r.stop ++ ring_line r.ring ++ condemned_line r.condemned
    ++ below_count t.locks (line_of_lock (last_state t r)) ++ below_count t.seats (line_of_seat (last_state t r))

-- the timetable's replay was written after a text
abbrev pub IsReplayTold : Timetable → List ℕ → List ℕ → Type 0
IsReplayTold t old new = (r : Replay) × IsReplay t r × (new ≡ old ++ replay_lines t r)

-- the text is that of the timetable's replay, told behind nothing
abbrev pub IsTextOf : Timetable → List ℕ → Type 0
IsTextOf t text = IsReplayTold t [] text

-- no timetable has two texts
abbrev pub HasOneText : Type 0
HasOneText = (t : Timetable) (a b : List ℕ) → IsTextOf t a → IsTextOf t b → a ≡ b

-- ---- parts of a text

-- the events up to the first that isn't possible were written after a text, and led to this state
pub record AreTold (c : State) (events : List Event) (end : State) (old new : List ℕ) : Type 0 where
  pub stop : Option ℕ
  pub stops : StopsAt c events stop
  pub state : end ≡ state_after c (front stop events)
  pub text : new ≡ old ++ run_lines c events stop

-- the ring of the state and its condemned seats were written after a text
pub record IsRingTold (c : State) (old new : List ℕ) : Type 0 where
  pub ring : Option (List ℕ)
  pub condemned : Option ℕ
  pub is_ring : RingOf c ring
  pub is_condemned : CondemnedOf c (seats_of ring) condemned
  pub text : new ≡ old ++ ring_line ring ++ condemned_line condemned
