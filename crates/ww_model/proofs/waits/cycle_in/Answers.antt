use Rattle.std.proofs.Common.{subst, arith}
use Rattle.ww_model.specs.Run.{Reached}
use Rattle.ww_model.specs.Snapshot.{Snapshot, state_of}
use Rattle.ww_model.proofs.Chains.{first_of_ring}
use Rattle.ww_model.proofs.waits.cycle_in.Goals as goal

pub returns : goal.returns
returns c = λ ring is. let reached = subst (λ (s : Snapshot). Reached (state_of s)) c.core.view_is c.core.invariant.reached in
    let first = first_of_ring (state_of c.args.core.now) reached ring is in
    c.loop-seat.invariant first.0 (omega (arith, first.1, c.loop-seat-test.false, c.seats-seat-end.ensures)) ring (is, first.2)
