use Rattle.std.proofs.Common.{◌≡◌, ◌++◌, take, string_bytes}
use Rattle.ww_json.specs.Pieces.{numbered}
use Rattle.ww_outcome.specs.Text.{place_line}
use Rattle.ww_outcome.proofs.text.push_places.Given as goal

abbrev pub invariant-loop-place : goal.invariant-loop-place
invariant-loop-place l = string_bytes l.out ≡ string_bytes l.initial.out ++ numbered place_line 0 (take l.place l.places)
