-- The lines of a schedule.
use Rattle.std.specs.Prelude.{ℕ, List, [], ◌++◌, codes, decimal, Option, Some, None, if◌then◌else◌}
use Rattle.std.specs.List.{flat_map}
use Rattle.ww_queue.specs.declared.entry.Entry.{Entry}
use Rattle.ww_model.specs.declared.state.Holder.{Holder}
use Rattle.ww_model.specs.declared.state.Holder.TheVariants.{Nobody, Taken, Handed}
use Rattle.ww_model.specs.declared.event.Answer.{Answer}
use Rattle.ww_model.specs.declared.event.Answer.TheVariants as told
use Rattle.ww_model.specs.declared.event.Answer.TheVariants.{Stamp, Done, Locked, Met, Free, Deadlk, Place, Interrupted}
use Rattle.ww_json.specs.Pieces.{spaced, spaced_or_dash}

-- what an event answers
abbrev pub answer_text : Answer → List ℕ
answer_text (Stamp stamp) = codes "stamp " ++ decimal stamp
answer_text Done = codes "ok"
answer_text Locked = codes "locked"
answer_text (Met stamp) = codes "met " ++ decimal stamp
answer_text (told.Handed seat) = codes "handed " ++ decimal seat
answer_text Free = codes "free"
answer_text (Deadlk stamp) = codes "deadlk " ++ decimal stamp
answer_text (Place place) = codes "place " ++ decimal place
answer_text (Interrupted seat) = codes "interrupted " ++ decimal seat

-- what an event answered
unfoldable pub event_line : ℕ → Answer → List ℕ
event_line index answer = codes "event " ++ decimal index ++ codes " " ++ answer_text answer ++ codes "\n"

-- the first event that wasn't possible, if there was one
abbrev pub impossible_text : Option ℕ → List ℕ
impossible_text None = []
impossible_text (Some index) = codes "impossible " ++ decimal index ++ codes "\n"

-- the seats of the ring, if there is one
abbrev pub ring_text : Option (List ℕ) → List ℕ
ring_text None = codes " -"
ring_text (Some seats) = flat_map spaced seats

-- the ring
unfoldable pub ring_line : Option (List ℕ) → List ℕ
ring_line ring = codes "ring" ++ ring_text ring ++ codes "\n"

-- which seat is condemned
unfoldable pub condemned_line : Option ℕ → List ℕ
condemned_line seat = codes "condemned" ++ spaced_or_dash seat ++ codes "\n"

-- a seat and its stamp
abbrev pub stamped : ℕ → ℕ → List ℕ
stamped seat stamp = decimal seat ++ codes "/" ++ decimal stamp

-- the owner of a lock, and its stamp
abbrev pub owner_text : Holder → ℕ → List ℕ
owner_text Nobody stamp = codes "-"
owner_text (Taken seat) stamp = stamped seat stamp
owner_text (Handed seat) stamp = stamped seat stamp ++ codes "h"

-- whether a waiter holds locks
abbrev pub holds_text : Entry → List ℕ
holds_text e = if e.holds then codes "+" else []

-- a waiter, behind a space
abbrev pub entry_text : Entry → List ℕ
entry_text e = codes " " ++ stamped e.seat e.stamp ++ holds_text e

-- a lock: its owner with its stamp, and its wait list
unfoldable pub lock_line : ℕ → Holder → ℕ → List Entry → List ℕ
lock_line lock owner stamp queue =
    codes "lock " ++ decimal lock ++ codes " " ++ owner_text owner stamp ++ codes " :" ++
    flat_map entry_text queue ++ codes "\n"

-- a seat: its stamp and its sign
unfoldable pub seat_line : ℕ → ℕ → ℕ → List ℕ
seat_line seat stamp sign =
    codes "seat " ++ decimal seat ++ codes " " ++ decimal stamp ++ codes " " ++ decimal sign ++ codes "\n"
