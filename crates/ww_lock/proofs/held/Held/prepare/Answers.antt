use Rattle.std.proofs.Common.{length, sym, subst}
use Rattle.ww_plain.specs.Transaction.{transaction_of, Fits}
use Rattle.ww_lock.specs.Holding.{Holding}
use Rattle.ww_lock.specs.Making.{Covers}
use Rattle.ww_lock.specs.Moves.{MayPrepare}
use Rattle.ww_lock.proofs.held.Held.prepare.Goals as goal

pub prepare-requires : goal.prepare-requires
prepare-requires g c = let txn = transaction_of c.args.txn in record {
  may = subst (MayPrepare txn) (sym c.deref_mut.ensures.value) (record {
    fresh = c.self.invariant.0;
    fits = subst (λ (s : Holding). Fits (length s.seen) txn) (sym c.self.view_is) c.requires.fits;
    no_double = c.requires.no_double;
    covers = subst (λ (s : Holding). Covers s txn) (sym c.self.view_is) c.requires.covers;
  });
}
