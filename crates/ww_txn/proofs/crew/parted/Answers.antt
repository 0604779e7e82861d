use Rattle.std.proofs.Common.{◌++◌, ◌∷◌, [], ap, sym, ◌∙◌, append_assoc}
use Rattle.std.specs.Vec.Iter.{into_iter_items}
use Rattle.ww_lock.specs.Holding.{Holding}
use Rattle.ww_txn.proofs.Crews.{parted_more}
use Rattle.ww_txn.proofs.crew.parted.Goals as goal

pub loop-pass-preserved : goal.loop-pass-preserved
loop-pass-preserved g c =
    let so_far = c.loop-pass.invariant in
    let call : Holding × g.row.X.Denot = (c.in-Some.pass, c.in-Some.value) in (
      so_far.0 ++ call ∷ [],
      so_far.1 ∙ ap (λ rest. so_far.0 ++ rest) c.in-Some.ensures.steps.0
          ∙ sym (append_assoc so_far.0 (call ∷ []) (into_iter_items c.next.new.self)),
      rw (c.in_ok-push.ensures.items, c.in_ok-push-2.ensures.items)
          (parted_more so_far.0 c.loop-pass.passes.items c.loop-pass.values.items c.in-Some.pass c.in-Some.value so_far.2),
    )
