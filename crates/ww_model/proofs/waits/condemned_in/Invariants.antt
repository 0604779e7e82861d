use Rattle.std.proofs.Common.{take}
use Rattle.ww_model.specs.Waits.{CondemnedOf}
use Rattle.ww_model.specs.Snapshot.{state_of}
use Rattle.ww_model.proofs.waits.condemned_in.Given as goal

abbrev pub invariant-loop-seat : goal.invariant-loop-seat
invariant-loop-seat l = CondemnedOf (state_of l.core) (take l.seat-index l.ring) l.least
