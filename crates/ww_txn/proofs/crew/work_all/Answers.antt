use Rattle.std.proofs.Common.{get_or, sym, subst, arith}
use Rattle.ww_lock.specs.Holding.{Holding}
use Rattle.ww_txn.proofs.crew.work_all.Goals as goal

pub returns : goal.returns
returns g c = record {
  count = omega (arith, c.in_ok-worked.ensures.len);
  each = λ i s r lt.
      let call = (c.in_ok-worked.ensures.each i r lt).1 in
      subst (λ (begun : Holding). g.F.Fn.post c.args.work.now (c.args.world, (begun, tt)) (get_or c.in_ok-worked.worked.items i r))
      (sym (call.job_is s)) call.call.met;
}
