use Rattle.std.proofs.Common.{◌≡◌, ◌++◌, take, string_bytes}
use Rattle.std.specs.List.{flat_map}
use Rattle.ww_json.specs.Pieces.{spaced}
use Rattle.ww_schedule.proofs.replay.push_ring_seats.Given as goal

abbrev pub invariant-loop-seat : goal.invariant-loop-seat
invariant-loop-seat l = string_bytes l.out ≡ string_bytes l.initial.out ++ flat_map spaced (take l.seat-index l.seats)
