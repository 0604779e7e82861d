use Rattle.std.proofs.Common.{◌≡◌, ℕ, List, [], length, map, get_or, vec_len, refl, sym, ap, subst, ◌∙◌, arith, rules, zero-add, vec_capacity}
use Rattle.std.specs.Vec.Iter.{into_iter_items}
use Rattle.std.specs.Global.{Vec}
use Rattle.ww_script_parts.specs.declared.acts.Act.{Act}
use Rattle.ww_script.specs.Acts.{deed_of}
use Rattle.ww_run.specs.Workers.{IsReadyToRun}
use Rattle.ww_run.proofs.Starts.{IsPromised, ArePromised, ready_from, starting, started, not_started, all_started, all_kept, no_length}
use Rattle.ww_run.proofs.workers.fn.work.scope.Goals as goal

pub loop-pass-init : goal.loop-pass-init
loop-pass-init g c =
    let w = c.captures.world.now in
    let ready = ready_from w 0 c.captures.scripts.items c.captures.passes.items c.requires.count
    (λ i t d lt. subst
    (λ (k : ℕ). IsReadyToRun w k (get_or (map (λ (s : Vec Act). map deed_of s.items) c.captures.scripts.items) i t)
    (get_or c.captures.passes.items i d))
    (sym (zero-add i)) (c.requires.each i t d lt)) in
    let gives = c.into_iter-pass-iterator.ensures.into_iter_gives in (
      grind rules,
      rw (c.into_iter-rest.ensures.rest, gives.0)
          (starting w c.captures.scripts.items c.captures.scripts.items c.captures.passes.items
          c.in_ok-workers.workers.items
          (vec_capacity c.in_ok-workers.workers) refl c.in_ok-workers.ensures.items ready
          (omega (arith, c.in_ok-workers.ensures.capacity, c.len.ensures))),
    )

pub loop-pass-preserved-in-Ok : goal.loop-pass-preserved-in-Ok
loop-pass-preserved-in-Ok g c =
    let promised : IsPromised c.captures.world.now c.in-Some.pass.caller c.in-Some-next.acts c.in-Ok.worker.promise = search rules in
    let steps = c.in-Some.ensures.steps in (
      omega (arith, steps.1, ap length steps.0, c.loop-pass.invariant.0),
      rw c.push_reserved.ensures.capacity
          (started c.captures.world.now _ _ _ _ _ c.in-Some.pass c.in-Some-next.acts _ _ c.in-Ok.worker _ _
          c.loop-pass.invariant.1 steps.0 c.in-Some-next.ensures.cases.0 c.push_reserved.ensures.items promised),
    )

pub loop-pass-preserved : goal.loop-pass-preserved
loop-pass-preserved g c =
    let steps = c.in-Some.ensures.steps in (
      omega (arith, steps.1, ap length steps.0, c.loop-pass.invariant.0),
      not_started c.captures.world.now _ _ _ _ _ c.in-Some.pass c.in-Some-next.acts _ _ c.loop-pass.is_short
          c.loop-pass.invariant.1 steps.0 c.in-Some-next.ensures.cases.0,
    )

pub returns : goal.returns
returns g c =
    let workers = c.loop-pass.workers in
    let none : into_iter_items c.loop-pass.pass-iterator ≡ [] =
    no_length (into_iter_items c.loop-pass.pass-iterator) (sym c.loop-pass.invariant.0 ∙ c.in-None.ensures.steps.0) in
    let len : vec_len workers ≡ length workers.items = search rules in
    let promised = all_started c.captures.world.now _ _ _ workers.items _ c.loop-pass.is_short c.loop-pass.invariant.1
    c.if-is_short.false none in
    all_kept c.captures.world.now c.captures.scripts.items workers.items c.in_ok-works.field-0.items
    (subst (λ (scripts : List (Vec Act)). ArePromised c.captures.world.now 0 scripts workers.items)
    c.into_iter-rest.ensures.rest promised)
    (grind rules)
    (λ i work lt. let k = (c.in_ok-works.ensures.each i work (omega (arith, lt, len))).1 in (k.handle, k.handle_is, k.kept))
