use Rattle.std.proofs.Common.{◌≡◌, ◌++◌, map, take, string_bytes}
use Rattle.ww_outcome.specs.Said.{said_of}
use Rattle.ww_json.specs.Pieces.{numbered}
use Rattle.ww_outcome.specs.Text.{script_lines}
use Rattle.ww_outcome.proofs.text.push_scripts.Given as goal

abbrev pub invariant-loop-script : goal.invariant-loop-script
invariant-loop-script l = string_bytes l.out
    ≡ string_bytes l.initial.out ++ numbered script_lines 0
    (map (λ answers. map said_of answers.items) (take l.script l.scripts))
