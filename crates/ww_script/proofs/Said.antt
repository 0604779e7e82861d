-- What an input is said by is read as it.
use Rattle.std.proofs.Common.{◌≡◌, inl, inr, Ok, ap}
use Rattle.ww_json.specs.Parts.{◌>>=◌}
use Rattle.ww_script_parts.specs.declared.version.Version.{Version}
use Rattle.ww_script_parts.specs.declared.version.Version.TheVariants.{One, Two}
use Rattle.ww_script_parts.specs.Versions.{ports_of}
use Rattle.ww_script_parts.specs.Scripts.{Plan, IsPlan}
use Rattle.ww_script_parts.specs.Spelling.{plan_data}
use Rattle.ww_script_parts.proofs.Said.{plan_said}
use Rattle.ww_schedule.proofs.Said.{timetable_said}
use Rattle.ww_script.specs.declared.input.Input.TheVariants as input
use Rattle.ww_script.specs.Reading.{version_in, input_in}
use Rattle.ww_outcome.specs.CutOff.{in_version_2}
use Rattle.ww_outcome.proofs.CutOff.{versions_agree}
use Rattle.ww_script.specs.Spelling.{EachInputCanBeSaid, EachVersion1IsCutOff}
use Rattle.ww_script.proofs.Kept.{reading_kept}

-- the number of a version is read as the version, and then the rest
scripts_said : (version : Version) (plan : Plan) → plan.ports ≡ ports_of version → IsPlan plan
    → input_in (plan_data plan) ≡ Ok (input.Scripts plan)
unfolding input_in version_in
scripts_said One plan used is = rw used (ap (λ r. r >>= λ plan. Ok (input.Scripts plan)) (rw used at (plan_said One plan used is)))
scripts_said Two plan used is = rw used (ap (λ r. r >>= λ plan. Ok (input.Scripts plan)) (rw used at (plan_said Two plan used is)))

pub input_said : EachInputCanBeSaid
unfolding input_in version_in
input_said (input.Scripts plan) is = elim is.version [
  | inl one ↦ scripts_said One plan one is
  | inr two ↦ scripts_said Two plan two is
]
input_said (input.Schedule timetable) is = ap (λ r. r >>= λ timetable. Ok (input.Schedule timetable)) (timetable_said timetable is)

pub version_1_cut_off : EachVersion1IsCutOff
version_1_cut_off bytes plan e one =
    let both = versions_agree plan (reading_kept bytes (input.Scripts plan) e) one in
    (input_said (input.Scripts (in_version_2 plan)) both.0, both.1)
