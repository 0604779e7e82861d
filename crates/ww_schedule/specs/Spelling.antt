-- How an input says a schedule.
use Rattle.std.specs.Prelude.{ℕ, List, [], ◌∷◌, map, codes}
use Rattle.serde_json.specs.Data.{Data, string, object, no_members, member}
use Rattle.ww_model.specs.declared.event.Event.{Event}
use Rattle.ww_model.specs.declared.event.Event.TheVariants.{Begin, Clear, Fast, FastGive, Guard, Join, Sign, Take, Ask, Give, Die, Unguard, Commit, End, Cancel, Heed, Leave}
use Rattle.ww_json.specs.Spelling.{list, whole, kind_word}
use Rattle.ww_schedule.specs.Schedules.{Timetable}

-- a word and its numbers
abbrev pub said_with : List ℕ → List ℕ → Data
said_with word numbers = list (string word ∷ map whole numbers)

-- an event, with its word first
abbrev pub event_data : Event → Data
event_data (Begin s) = said_with (codes "begin") (s ∷ [])
event_data (Clear s) = said_with (codes "clear") (s ∷ [])
event_data (Fast s n) = said_with (codes "fast") (s ∷ n ∷ [])
event_data (FastGive s n) = said_with (codes "fast-give") (s ∷ n ∷ [])
event_data (Guard s n) = said_with (codes "guard") (s ∷ n ∷ [])
event_data (Join s n) = said_with (codes "join") (s ∷ n ∷ [])
event_data (Sign s v) = said_with (codes "sign") (s ∷ v ∷ [])
event_data (Take s n) = said_with (codes "take") (s ∷ n ∷ [])
event_data (Ask s n) = said_with (codes "ask") (s ∷ n ∷ [])
event_data (Give s n) = said_with (codes "give") (s ∷ n ∷ [])
event_data (Die s n) = said_with (codes "die") (s ∷ n ∷ [])
event_data (Unguard s n) = said_with (codes "unguard") (s ∷ n ∷ [])
event_data (Commit s) = said_with (codes "commit") (s ∷ [])
event_data (End s) = said_with (codes "end") (s ∷ [])
event_data (Cancel s v) = said_with (codes "cancel") (s ∷ v ∷ [])
event_data (Heed s n) = said_with (codes "heed") (s ∷ n ∷ [])
event_data (Leave s n) = said_with (codes "leave") (s ∷ n ∷ [])

-- the value of a schedule's input, with the keys in the order in which an object holds them
abbrev pub timetable_data : Timetable → Data
timetable_data t =
    object (member (codes "events") (list (map event_data t.events))
    (member (codes "kind") (string (kind_word t.kind))
    (member (codes "locks") (whole t.locks)
    (member (codes "seats") (whole t.seats)
    (member (codes "version") (whole 1) no_members)))))
