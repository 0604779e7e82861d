use Rattle.std.proofs.Common.{rules, ◌≡◌, ◌<◌, length, get_or, sym, subst}
use Rattle.ww_plain.proofs.GraphFacts.{all_item}
use Rattle.ww_invariant.proofs.Filling.{below_more, take_all}
use Rattle.ww_table.specs.Closed.{HasPlaces}
use Rattle.ww_table.proofs.Closing.{all_more}
use Rattle.ww_table.proofs.close.reach.Goals as goal

pub loop-seat-preserved : goal.loop-seat-preserved
loop-seat-preserved c = let i = c.loop-seat.invariant in let r = c.reach-reach in let seats = c.args.seats.now in
    let at = c.loop-seat.seat-index in let s = c.seat-item.result in
    let small : at < length seats = search rules in let is : s ≡ get_or seats at s = search rules in (
      take_all (HasPlaces r.result) seats at s small is
          (all_more (HasPlaces c.loop-seat.reach) (HasPlaces r.result)
          (λ q below. below_more c.loop-seat.reach r.result q.records.items r.ensures.least below) _ i.0)
          r.ensures.all,
      λ n all. r.ensures.exact n (i.1 n all) (subst (HasPlaces n) (sym is) (all_item (HasPlaces n) seats at s small all)),
    )
