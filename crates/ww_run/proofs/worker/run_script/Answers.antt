use Rattle.std.proofs.Common.{length, map, Result, IfOk, ap, ◌∙◌, subst, arith}
use Rattle.std.proofs.lemmas.List.{map_push}
use Rattle.ww_script.specs.Acts.{deed_of}
use Rattle.ww_outcome.specs.declared.outcome.ScriptAnswer.{ScriptAnswer}
use Rattle.ww_script.specs.Said.{said_of}
use Rattle.std.specs.declared.alloc.AllocError.{AllocError}
use Rattle.ww_run.specs.Workers.{IsSaidBy}
use Rattle.ww_run.proofs.Acts.{under_way, one_more}
use Rattle.ww_run.proofs.worker.run_script.Goals as goal

pub loop-act-init : goal.loop-act-init
loop-act-init g c = rw (c.into_iter-act-iterator.ensures.into_iter_gives.0, c.in-Ok.ensures.items) (
  omega (arith, c.in-Ok.ensures.capacity, c.len.ensures),
  under_way c.args.world.now c.args.pass.caller (map deed_of c.args.acts.items) c.args.pass c.requires,
)

pub loop-act-preserved : goal.loop-act-preserved
loop-act-preserved g c =
    let answers = c.loop-act.answers.items in
    let deed = deed_of c.in-Some.act in
    let done = c.carry_out-next in (
      omega (
        arith,
        c.loop-act.invariant.0,
        ap length c.in-Some.ensures.steps.0,
        ap length
            c.push_reserved.ensures.items,
        c.push_reserved.ensures.capacity,
      ),
      one_more c.args.world.now c.args.pass.caller (map deed_of c.args.acts.items) _ _ (map said_of answers) _ deed
          (said_of c.in-Ok-told.answer) c.loop-act.pass done.result.0
          (ap (map deed_of) c.in-Some.ensures.steps.0)
          (ap (map said_of) c.push_reserved.ensures.items ∙ map_push said_of answers c.in-Ok-told.answer)
          c.loop-act.invariant.1 done.ensures.home done.ensures.after
          (subst (λ (r : Result ScriptAnswer AllocError). IfOk r (λ answer. IsSaidBy c.loop-act.pass deed (said_of answer) done.result.0))
          c.in-Ok-told.is done.ensures.told),
    )
