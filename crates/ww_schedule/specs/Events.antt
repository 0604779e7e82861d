-- How the events of an input are written.
use Rattle.std.specs.Prelude.{ℕ, List, [], ◌∷◌, codes, bytes_eq, Result, Ok, Err, if◌then◌else◌}
use Rattle.serde_json.specs.Data.{Data}
use Rattle.ww_model.specs.declared.event.Event.{Event}
use Rattle.ww_model.specs.declared.event.Event.TheVariants.{Begin, Clear, Fast, FastGive, Guard, Join, Sign, Take, Ask, Give, Die, Unguard, Commit, End, Cancel, Heed, Leave}
use Rattle.ww_json.specs.declared.fault.InputFault.{InputFault}
use Rattle.ww_json.specs.declared.fault.InputFault.TheVariants.{BadWord}
use Rattle.ww_json.specs.Parts.{◌>>=◌, array, text, below}

-- one member, a seat
abbrev pub seat_of : ℕ → List Data → Result ℕ InputFault
seat_of seats (seat ∷ []) = below seats seat
seat_of seats _ = Err BadWord

-- two members, a seat and a number below the limit
abbrev pub both_of : ℕ → ℕ → List Data → Result (ℕ × ℕ) InputFault
both_of seats limit (seat ∷ other ∷ []) = do
  s ← below seats seat
  n ← below limit other
  Ok (s, n)
both_of seats limit _ = Err BadWord

-- an event of a seat
abbrev pub alone : (ℕ → Event) → ℕ → List Data → Result Event InputFault
alone event seats members = do
  s ← seat_of seats members
  Ok (event s)

-- an event of a seat, and of a number below the limit
abbrev pub both : (ℕ → ℕ → Event) → ℕ → ℕ → List Data → Result Event InputFault
both event seats limit members = do
  p ← both_of seats limit members
  Ok (event p.0 p.1)

-- what follows this word
unfoldable pub event_with : ℕ → ℕ → List ℕ → List Data → Result Event InputFault
event_with seats locks word members =
    if bytes_eq word (codes "begin") then alone Begin seats members
    else if bytes_eq word (codes "clear") then alone Clear seats members
    else if bytes_eq word (codes "fast") then both Fast seats locks members
    else if bytes_eq word (codes "fast-give") then both FastGive seats locks members
    else if bytes_eq word (codes "guard") then both Guard seats locks members
    else if bytes_eq word (codes "join") then both Join seats locks members
    else if bytes_eq word (codes "sign") then both Sign seats seats members
    else if bytes_eq word (codes "take") then both Take seats locks members
    else if bytes_eq word (codes "ask") then both Ask seats locks members
    else if bytes_eq word (codes "give") then both Give seats locks members
    else if bytes_eq word (codes "die") then both Die seats locks members
    else if bytes_eq word (codes "unguard") then both Unguard seats locks members
    else if bytes_eq word (codes "commit") then alone Commit seats members
    else if bytes_eq word (codes "end") then alone End seats members
    else if bytes_eq word (codes "cancel") then both Cancel seats seats members
    else if bytes_eq word (codes "heed") then both Heed seats locks members
    else if bytes_eq word (codes "leave") then both Leave seats locks members
    else Err BadWord

-- a word, and then the members that it asks for
abbrev pub event_from : ℕ → ℕ → List Data → Result Event InputFault
event_from seats locks [] = Err BadWord
event_from seats locks (first ∷ members) = do
  word ← text first
  event_with seats locks word members

-- an array that begins with a word
unfoldable pub event_in : ℕ → ℕ → Data → Result Event InputFault
event_in seats locks d = array d >>= event_from seats locks
