use Rattle.std.proofs.Common.{arith}
use Rattle.ww_model.specs.Snapshot.{state_of}
use Rattle.ww_model.proofs.Chains.{owned_within, not_there}
use Rattle.ww_model.proofs.state.Core.waits_for.Goals as goal

pub loop-lock-preserved : goal.loop-lock-preserved
loop-lock-preserved c = not_there (state_of c.args.self.now) c.args.seat c.loop-lock.lock c.loop-lock.invariant c.in_default.ensures

pub returns : goal.returns
returns c = λ b w. c.loop-lock.invariant w.0 b
    (let within = owned_within c.args.self.now.owners w.0 b w.1.owner in
    omega (arith, c.loop-lock-test.false, c.locks-lock-end.ensures)) w.1
