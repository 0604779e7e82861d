use Rattle.std.proofs.Common.{arith, subst, sym}
use Rattle.ww_invariant.specs.Homes.{AreSlots}
use Rattle.ww_invariant.specs.Rule.{nodes_of}
use Rattle.ww_invariant.proofs.Slots.{slots_more}
use Rattle.ww_invariant.proofs.homes.slots.Goals as goal

pub loop-n-preserved : goal.loop-n-preserved
loop-n-preserved c = let i = c.loop-n.invariant in let p = c.push_reserved.ensures in (
  subst (AreSlots (nodes_of c.args.bare c.args.graph.now) _) (sym p.items)
      (slots_more (nodes_of c.args.bare c.args.graph.now) c.loop-n.n c.loop-n.slots.items c.cell.result i.0 c.cell.ensures.node
      c.cell.ensures.list),
  (let l = p.len in let m = i.1 in omega arith),
  (let l = p.capacity in let m = i.2 in omega arith),
)
