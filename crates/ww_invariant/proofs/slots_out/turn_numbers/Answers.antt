use Rattle.std.proofs.Common.{ap, sym, ◌∙◌, ◌≡◌, set, get_or, length, length-set, arith}
use Rattle.ww_invariant.proofs.Turning.{shifted_none, shifted_on, shifted_out, refill_all}
use Rattle.ww_invariant.proofs.slots_out.turn_numbers.Goals as goal

pub loop-at-init : goal.loop-at-init
loop-at-init c = let d = c.deref.ensures.0 in let v = c.len.ensures.value in let e = c.len-at-end.ensures.value in
    (sym (shifted_none _ _), cc, cc)

pub loop-at-preserved : goal.loop-at-preserved
loop-at-preserved c = let inv = c.loop-at.invariant in let long = inv.2 in let b = c.loop-at-test.true in
    let here = c.loop-at.order.items in let at = c.loop-at.at in let carried = c.loop-at.carried in
    let read = c.deref-in-loop-at.ensures.0 in let lent = c.deref_mut.ensures.value in
    let on = shifted_on _ here _ carried at inv.0 inv.1 (omega arith) in
    let same : length (set c.deref_mut.result.now at carried) ≡ length here = length-set _ _ _ ∙ ap length lent in
    let full = refill_all here (set c.deref_mut.result.now at carried) same in (
      full ∙ ap (λ l. set l at carried) lent ∙ on.0,
      ap (λ l. get_or l at 0) read ∙ on.1,
      ap length full ∙ same ∙ inv.2,
    )

pub returns : goal.returns
returns c = λ ns n is. let e = c.len-at-end.ensures.value in let b = c.loop-at-test.false in
    shifted_out c.args.order.now.items c.loop-at.order.items ns n c.loop-at.at is (omega arith) c.loop-at.invariant.0
