use Rattle.std.proofs.Common.{◌≡◌, ◌++◌, map, take, string_bytes}
use Rattle.ww_outcome.specs.Said.{said_of}
use Rattle.ww_json.specs.Pieces.{numbered}
use Rattle.ww_outcome.specs.Text.{reply_line}
use Rattle.ww_outcome.proofs.text.push_script.Given as goal

abbrev pub invariant-loop-index : goal.invariant-loop-index
invariant-loop-index l = string_bytes l.out
    ≡ string_bytes l.initial.out ++ numbered (reply_line l.script) 0 (map said_of (take l.index l.answers))
