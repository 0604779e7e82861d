use Rattle.std.proofs.Common.{◌++◌, ◌∷◌, [], refl, ap, sym, ◌∙◌, append_assoc}
use Rattle.std.specs.Vec.Iter.{into_iter_items}
use Rattle.ww_run.proofs.Scripts.{parted_more}
use Rattle.ww_run.proofs.workers.parted.Goals as goal

pub loop-pass-preserved : goal.loop-pass-preserved
loop-pass-preserved c =
    let so_far = c.loop-pass.invariant in
    let work = c.in-Some.field-0 in (
      so_far.0 ++ work ∷ [],
      so_far.1 ∙ ap (λ works. so_far.0 ++ works) c.in-Some.ensures.steps.0
          ∙ sym (append_assoc so_far.0 (work ∷ []) (into_iter_items c.next.new.self)),
      rw (c.in_ok-push.ensures.items, c.in_ok-push-2.ensures.items)
          (parted_more so_far.0 c.loop-pass.passes.items c.loop-pass.replies.items work work.pass
          c.in_ok-told.field-0 so_far.2 refl c.in_ok-told.was),
    )
