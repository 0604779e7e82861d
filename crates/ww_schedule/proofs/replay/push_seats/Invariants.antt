use Rattle.std.proofs.Common.{◌≡◌, ◌++◌, string_bytes}
use Rattle.ww_model.specs.Snapshot.{state_of}
use Rattle.ww_schedule.specs.Replay.{line_of_seat, below_count}
use Rattle.ww_schedule.proofs.replay.push_seats.Given as goal

abbrev pub invariant-loop-seat : goal.invariant-loop-seat
invariant-loop-seat l = string_bytes l.out ≡ string_bytes l.initial.out ++ below_count l.seat (line_of_seat (state_of l.core))
