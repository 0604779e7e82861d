use Rattle.ww_model.specs.Snapshot.{state_of}
use Rattle.ww_model.proofs.Waiters.{waiter_tells}
use Rattle.ww_model.proofs.state.Core.waits_at.Goals as goal

pub returns : goal.returns
returns c = rw (c.has_waiter.ensures, c.waiters_at.ensures) (waiter_tells c.args.seat ((state_of c.args.self.now).queue c.args.lock))
