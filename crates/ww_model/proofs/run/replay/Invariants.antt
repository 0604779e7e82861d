use Rattle.std.proofs.Common.{◌≡◌, take}
use Rattle.ww_model.specs.State.{start}
use Rattle.ww_model.specs.Snapshot.{state_of}
use Rattle.ww_model.proofs.Runs.{Goes}
use Rattle.ww_model.proofs.run.replay.Given as goal

abbrev pub invariant-loop-i : goal.invariant-loop-i
invariant-loop-i l = record {
  goes : Goes (start l.fn.kind l.fn.locks l.fn.seats) (take l.i l.events) (state_of l.core);
  locks : (state_of l.core).locks ≡ l.fn.locks;
  seats : (state_of l.core).seats ≡ l.fn.seats;
}
