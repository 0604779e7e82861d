-- What an input says, or its first fault.
use Rattle.std.specs.Prelude.{◌≡◌, ℕ, List, length, codes, Bool, nat_lt, ◌==◌, Option, Some, None, is_some, Result, Ok, Err, ok_or, if◌then◌else◌}
use Rattle.std.specs.Str.{is_utf8}
use Rattle.serde_json.specs.Data.{Data}
use Rattle.serde_json.specs.Find.{get, as_number, as_u64}
use Rattle.serde_json.specs.Read.{read}
use Rattle.ww_json.specs.declared.fault.InputFault.{InputFault}
use Rattle.ww_json.specs.declared.fault.InputFault.TheVariants.{NotJson, BadVersion, TooLong, BadType}
use Rattle.ww_script.specs.declared.input.Input.{Input}
use Rattle.ww_script.specs.declared.input.Input.TheVariants as input
use Rattle.ww_json.specs.Parts.{◌>>=◌, size, member}
use Rattle.ww_script_parts.specs.declared.version.Version.{Version}
use Rattle.ww_script_parts.specs.declared.version.Version.TheVariants.{One, Two}
use Rattle.ww_script_parts.specs.Versions.{number_of_version}
use Rattle.ww_script_parts.specs.Scripts.{IsPlan, plan_in}
use Rattle.ww_schedule.specs.Schedules.{IsTimetable, timetable_in}

-- the version of this number, where there is one
abbrev pub version_numbered : Option ℕ → Result Version InputFault
version_numbered None = Err BadVersion
version_numbered (Some n) =
    if n == number_of_version One then Ok One else if n == number_of_version Two then Ok Two else Err BadVersion

-- the version, which is given by its number
unfoldable pub version_in : Data → Result Version InputFault
version_in d = do
  version ← member (codes "version") d
  n ← ok_or (as_number version) BadType
  version_numbered (as_u64 n)

-- what an object says as scripts
abbrev pub as_scripts : Version → ℕ → Data → Result Input InputFault
as_scripts version members d = do
  plan ← plan_in version members d
  Ok (input.Scripts plan)

-- what an object says as a schedule
abbrev pub as_schedule : ℕ → Data → Result Input InputFault
as_schedule members d = do
  timetable ← timetable_in members d
  Ok (input.Schedule timetable)

-- the object has events
abbrev pub has_events : Data → Bool
has_events d = is_some (get (codes "events") d)

-- An object: its version first, and then the rest, which is a schedule where there are events. Schedules mean the same
-- in each version.
unfoldable pub input_in : Data → Result Input InputFault
input_in d = do
  members ← size d
  version ← version_in d
  if has_events d then as_schedule members d else as_scripts version members d

-- the value, if the text is UTF-8 and one was found
abbrev pub value_if : Bool → Option Data → Result Data InputFault
value_if utf8 found = if utf8 then ok_or found NotJson else Err NotJson

-- the value of a text in UTF-8
unfoldable pub parsed : List ℕ → Result Data InputFault
parsed bytes = value_if (is_utf8 bytes) (read bytes)

-- what the bytes of an input say, of which there are at most 1,048,576
unfoldable pub reading : List ℕ → Result Input InputFault
reading bytes = if nat_lt 1048576 (length bytes) then Err TooLong else (parsed bytes >>= input_in)

-- the input keeps to the ranges
abbrev pub IsInput : Input → Type 0
IsInput (input.Scripts plan) = IsPlan plan
IsInput (input.Schedule timetable) = IsTimetable timetable

-- whatever is read keeps to the ranges
abbrev pub ReadingKeepsRanges : Type 0
ReadingKeepsRanges = (bytes : List ℕ) (i : Input) → reading bytes ≡ Ok i → IsInput i
