use Rattle.std.proofs.Common.{ap, ◌∙◌}
use Rattle.ww_lock.specs.Carried.{holding_of}
use Rattle.ww_lock.specs.Moves.{tried}
use Rattle.ww_lock.proofs.acquiring.Acquiring.lock_as.Goals as goal

pub returns : goal.returns
returns g c = c.wait_as.ensures c.args.self
    (c.if-try_take.ensures.1 ∙ ap tried (ap holding_of c.deref_mut.ensures.value ∙ c.self.view_is))
