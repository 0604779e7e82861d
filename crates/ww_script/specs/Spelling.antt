-- How an input says what it asks for.
use Rattle.std.specs.Prelude.{◌≡◌, ℕ, List, Ok}
use Rattle.serde_json.specs.Data.{Data}
use Rattle.ww_script_parts.specs.declared.version.Version.TheVariants.{One}
use Rattle.ww_script_parts.specs.Versions.{ports_of}
use Rattle.ww_script_parts.specs.Scripts.{Plan}
use Rattle.ww_script_parts.specs.Spelling.{plan_data}
use Rattle.ww_outcome.specs.Outcome.{Told}
use Rattle.ww_outcome.specs.CutOff.{in_version_2, IsCutOff}
use Rattle.ww_schedule.specs.Spelling.{timetable_data}
use Rattle.ww_script.specs.declared.input.Input.{Input}
use Rattle.ww_script.specs.declared.input.Input.TheVariants as input
use Rattle.ww_script.specs.Reading.{input_in, reading, IsInput}

-- the value of an input
abbrev pub input_data : Input → Data
input_data (input.Scripts plan) = plan_data plan
input_data (input.Schedule timetable) = timetable_data timetable

-- each input that keeps to the ranges can be said by a JSON value, which is read as it
abbrev pub EachInputCanBeSaid : Type 0
EachInputCanBeSaid = (i : Input) → IsInput i → input_in (input_data i) ≡ Ok i

-- The scripts of each input of version 1 can be said in version 2 as well. What comes of them is the same there, and the
-- text of it in version 1 is that of version 2 with the ports cut off that version 1 lacks.
abbrev pub EachVersion1IsCutOff : Type 0
EachVersion1IsCutOff = (bytes : List ℕ) (plan : Plan) → reading bytes ≡ Ok (input.Scripts plan) → plan.ports ≡ ports_of One →
    (input_in (plan_data (in_version_2 plan)) ≡ Ok (input.Scripts (in_version_2 plan)))
    × ((told : Told) → told.ports ≡ ports_of One → IsCutOff plan told)
