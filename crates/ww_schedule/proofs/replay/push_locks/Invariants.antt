use Rattle.std.proofs.Common.{◌≡◌, ◌++◌, string_bytes}
use Rattle.ww_model.specs.Snapshot.{state_of}
use Rattle.ww_schedule.specs.Replay.{line_of_lock, below_count}
use Rattle.ww_schedule.proofs.replay.push_locks.Given as goal

abbrev pub invariant-loop-lock : goal.invariant-loop-lock
invariant-loop-lock l = string_bytes l.out ≡ string_bytes l.initial.out ++ below_count l.lock (line_of_lock (state_of l.core))
