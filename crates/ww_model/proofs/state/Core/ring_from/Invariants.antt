use Rattle.std.proofs.Common.{◌<◌, ◌-◌, length}
use Rattle.ww_model.specs.Waits.{Differ}
use Rattle.ww_model.specs.Snapshot.{state_of}
use Rattle.ww_model.proofs.Chains.{Walked, Reaches}
use Rattle.ww_model.proofs.state.Core.ring_from.Given as goal

abbrev pub invariant-loop-ring : goal.invariant-loop-ring
invariant-loop-ring l = let c = state_of l.self in record {
  walked : Walked c l.first l.ring.items l.here;
  differ : Differ l.ring.items;
  seat : l.here < c.seats;
  returns : Reaches c l.first l.first → Reaches c l.here l.first;
}

abbrev pub decreases-loop-ring : goal.decreases-loop-ring
decreases-loop-ring l = 16 - length l.ring.items
