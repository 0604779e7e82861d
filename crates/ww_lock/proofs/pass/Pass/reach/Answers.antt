use Rattle.std.proofs.Common.{sym, ap, subst, ◌∙◌}
use Rattle.ww_lock.specs.Holding.{Holding, AreBelow}
use Rattle.ww_lock.specs.Carried.{holding_of}
use Rattle.ww_lock.proofs.pass.Pass.reach.Goals as goal

pub returns-clause-exact : goal.returns-clause-exact
returns-clause-exact c = λ n low below. c.reach.ensures.exact n low
    (subst (λ (s : Holding). AreBelow n s.own) (sym (ap holding_of c.deref.ensures ∙ c.self.view_is)) below)
