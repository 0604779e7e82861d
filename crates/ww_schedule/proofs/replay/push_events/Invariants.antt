use Rattle.std.proofs.Common.{take, string_bytes}
use Rattle.ww_model.specs.Snapshot.{state_of}
use Rattle.ww_schedule.proofs.Replays.{IsTold}
use Rattle.ww_schedule.proofs.replay.push_events.Given as goal

abbrev pub invariant-loop-index : goal.invariant-loop-index
invariant-loop-index l =
    IsTold (state_of l.initial.core) (take l.index-counter l.events) (state_of l.core) (string_bytes l.initial.out) (string_bytes l.out)
