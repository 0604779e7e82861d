use Rattle.std.proofs.Common.{ap, sym, subst, ◌∙◌}
use Rattle.ww_lock.specs.Holding.{Holding}
use Rattle.ww_lock.specs.Carried.{holding_of, MayStillCommit}
use Rattle.ww_lock.specs.Making.{IsChangeMade}
use Rattle.ww_lock.proofs.held.Held.commit.Goals as goal

pub commit-receipt-requires-clause-may : goal.commit-receipt-requires-clause-may
commit-receipt-requires-clause-may g c = (
  subst MayStillCommit (sym c.deref_mut.ensures.value) c.self.invariant.0,
  subst (λ (s : Holding). IsChangeMade s c.args.prepared) (sym (ap holding_of c.deref_mut.ensures.value ∙ c.self.view_is)) c.requires.made,
)
