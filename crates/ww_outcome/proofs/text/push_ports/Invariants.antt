use Rattle.std.proofs.Common.{◌≡◌, ◌++◌, take, string_bytes}
use Rattle.std.specs.List.{flat_map}
use Rattle.ww_json.specs.Pieces.{spaced_or_dash}
use Rattle.ww_outcome.proofs.text.push_ports.Given as goal

abbrev pub invariant-loop-port : goal.invariant-loop-port
invariant-loop-port l = string_bytes l.out ≡ string_bytes l.initial.out ++ flat_map spaced_or_dash (take l.port-index l.ports)
