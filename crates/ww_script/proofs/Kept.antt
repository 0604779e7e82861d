-- What is read keeps to its ranges.
use Rattle.std.proofs.Common.{◌≡◌, length, Ok, Err, subst}
use Rattle.std.specs.Prelude.{nat_lt}
use Rattle.serde_json.specs.Data.{Data}
use Rattle.ww_json.specs.declared.fault.InputFault.TheVariants.{TooLong}
use Rattle.ww_json.specs.Parts.{◌>>=◌, size}
use Rattle.ww_json.proofs.Kept.{bind_ok, done, ok_is, either_kept}
use Rattle.ww_script_parts.specs.Scripts.{Plan, plan_in}
use Rattle.ww_script_parts.proofs.Kept.{plan_kept}
use Rattle.ww_schedule.specs.Schedules.{Timetable, timetable_in}
use Rattle.ww_schedule.proofs.Kept.{timetable_kept}
use Rattle.ww_script.specs.declared.input.Input.{Input}
use Rattle.ww_script.specs.declared.input.Input.TheVariants as input
use Rattle.ww_script.specs.Reading.{version_in, as_scripts, as_schedule, has_events, input_in, parsed, reading, IsInput, ReadingKeepsRanges}

input_kept : (d : Data) (i : Input) → input_in d ≡ Ok i → IsInput i
unfolding input_in
input_kept d i e =
    let m = bind_ok (size d) _ i e in
    let v = bind_ok (version_in d) _ i m.2 in
    either_kept IsInput (has_events d) (as_schedule m.0 d) (as_scripts v.0 m.0 d) i
    (λ is. let t = bind_ok (timetable_in m.0 d) (λ (t : Timetable). done (input.Schedule t)) i is in
    subst IsInput (ok_is (input.Schedule t.0) i t.2) (timetable_kept m.0 d t.0 t.1))
    (λ is. let p = bind_ok (plan_in v.0 m.0 d) (λ (p : Plan). done (input.Scripts p)) i is in
    subst IsInput (ok_is (input.Scripts p.0) i p.2) (plan_kept v.0 m.0 d p.0 p.1)) v.2

pub reading_kept : ReadingKeepsRanges
unfolding reading
reading_kept bytes i e =
    either_kept IsInput (nat_lt 1048576 (length bytes)) (Err TooLong) (parsed bytes >>= input_in) i
    (λ long. absurd cc)
    (λ short. let p = bind_ok (parsed bytes) input_in i short in input_kept p.0 i p.2) e
