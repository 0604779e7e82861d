use Rattle.std.proofs.Common.{rules, ◌≡◌, ◌<◌, length, get_or, sym, subst}
use Rattle.ww_plain.proofs.GraphFacts.{all_item}
use Rattle.ww_invariant.proofs.Filling.{take_all}
use Rattle.ww_table.proofs.Closing.{all_more}
use Rattle.ww_lock.specs.Holding.{Holding, AreBelow}
use Rattle.ww_lock.proofs.Closings.{below_further}
use Rattle.ww_lock.proofs.close.reach.Goals as goal

pub loop-pass-preserved : goal.loop-pass-preserved
loop-pass-preserved c = let i = c.loop-pass.invariant in let r = c.reach-reach in let passes = c.args.passes.now in
    let at = c.loop-pass.pass-index in let p = c.pass-item.result in
    let small : at < length passes = search rules in let is : p ≡ get_or passes at p = search rules in (
      take_all (λ (s : Holding). AreBelow r.result s.own) passes at p small is
          (all_more (λ (s : Holding). AreBelow c.loop-pass.reach s.own) (λ (s : Holding). AreBelow r.result s.own)
          (λ s below. below_further c.loop-pass.reach r.result s.own r.ensures.least below) _ i.0)
          r.ensures.all,
      λ n all. r.ensures.exact n (i.1 n all)
          (subst (λ (s : Holding). AreBelow n s.own) (sym is)
          (all_item (λ (s : Holding). AreBelow n s.own) passes at p small all)),
    )
