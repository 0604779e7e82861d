-- Schedules, what they keep to, and how an input writes them.
use Rattle.std.specs.Prelude.{ℕ, ◌≤◌, ◌<◌, List, length, codes, Result, Ok}
use Rattle.std.specs.List.{AllByRecursion}
use Rattle.std.specs.Global.{Vec}
use Rattle.serde_json.specs.Data.{Data}
use Rattle.ww_queue.specs.declared.kind.Kind.{Kind}
use Rattle.ww_word.specs.declared.owner.TheConstants.{MAX_SEATS}
use Rattle.ww_model.specs.declared.state.TheConstants.{MAX_LOCKS}
use Rattle.ww_model.specs.declared.event.Event.{Event}
use Rattle.ww_model.specs.declared.event.Event.TheVariants.{Begin, Clear, Fast, FastGive, Guard, Join, Sign, Take, Ask, Give, Die, Unguard, Commit, End, Cancel, Heed, Leave}
use Rattle.ww_json.specs.declared.fault.InputFault.{InputFault}
use Rattle.ww_json.specs.Parts.{◌>>=◌, member, only, ranged, counted, each}
use Rattle.ww_json.specs.Kinds.{kind_in}
use Rattle.ww_schedule.specs.Events.{event_in}

-- `Schedule`, with a list where it has a vector
pub record Timetable : Type 0 where
  pub kind : Kind
  pub locks : ℕ
  pub seats : ℕ
  pub events : List Event

-- the timetable of these fields of a `Schedule`
abbrev pub timetable_of : Kind → ℕ → ℕ → Vec Event → Timetable
timetable_of kind locks seats events = record { kind = kind; locks = locks; seats = seats; events = events.items }

-- the seats and the lock that the event names are there
abbrev pub NamesWhatIsThere : ℕ → ℕ → Event → Type 0
NamesWhatIsThere seats locks (Begin s) = s < seats
NamesWhatIsThere seats locks (Clear s) = s < seats
NamesWhatIsThere seats locks (Fast s n) = (s < seats) × (n < locks)
NamesWhatIsThere seats locks (FastGive s n) = (s < seats) × (n < locks)
NamesWhatIsThere seats locks (Guard s n) = (s < seats) × (n < locks)
NamesWhatIsThere seats locks (Join s n) = (s < seats) × (n < locks)
NamesWhatIsThere seats locks (Sign s v) = (s < seats) × (v < seats)
NamesWhatIsThere seats locks (Take s n) = (s < seats) × (n < locks)
NamesWhatIsThere seats locks (Ask s n) = (s < seats) × (n < locks)
NamesWhatIsThere seats locks (Give s n) = (s < seats) × (n < locks)
NamesWhatIsThere seats locks (Die s n) = (s < seats) × (n < locks)
NamesWhatIsThere seats locks (Unguard s n) = (s < seats) × (n < locks)
NamesWhatIsThere seats locks (Commit s) = s < seats
NamesWhatIsThere seats locks (End s) = s < seats
NamesWhatIsThere seats locks (Cancel s v) = (s < seats) × (v < seats)
NamesWhatIsThere seats locks (Heed s n) = (s < seats) × (n < locks)
NamesWhatIsThere seats locks (Leave s n) = (s < seats) × (n < locks)

-- at most 10,000 events, whose numbers are those of the seats and locks
pub record AreEvents (seats locks : ℕ) (events : List Event) : Type 0 where
  pub few : length events ≤ 10000
  pub there : AllByRecursion (NamesWhatIsThere seats locks) events

-- 1 to 64 locks, 1 to 16 seats, and their events
pub record IsTimetable (t : Timetable) : Type 0 where
  pub some_lock : 1 ≤ t.locks
  pub few_locks : t.locks ≤ MAX_LOCKS
  pub some_seat : 1 ≤ t.seats
  pub few_seats : t.seats ≤ MAX_SEATS
  pub events : AreEvents t.seats t.locks t.events

-- an array of at most 10,000 events
unfoldable pub events_in : ℕ → ℕ → Data → Result (List Event) InputFault
events_in seats locks d = do
  ds ← counted 0 10000 d
  each (event_in seats locks) ds

-- All of an input but its version: with it there are five keys. They are looked at first, and then the fields in turn.
unfoldable pub timetable_in : ℕ → Data → Result Timetable InputFault
timetable_in members d = do
  kind ← member (codes "kind") d
  locks ← member (codes "locks") d
  seats ← member (codes "seats") d
  events ← member (codes "events") d
  keys ← only 5 members
  k ← kind_in kind
  l ← ranged 1 MAX_LOCKS locks
  s ← ranged 1 MAX_SEATS seats
  es ← events_in s l events
  Ok (record { kind = k; locks = l; seats = s; events = es })
