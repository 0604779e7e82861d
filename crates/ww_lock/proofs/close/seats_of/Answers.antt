use Rattle.std.proofs.Common.{◌≡◌, ◌+◌, [], ◌∷◌, ◌++◌, List, length, length-append, append_assoc, sym, ap, subst, ◌∙◌, rules, arith}
use Rattle.ww_table.specs.declared.seat.Stepper.{Stepper}
use Rattle.ww_lock.specs.Holding.{Holding}
use Rattle.ww_lock.specs.Closed.{AreSeatsOf}
use Rattle.ww_lock.proofs.Closings.{seats_push}
use Rattle.ww_lock.proofs.close.seats_of.Goals as goal

pub loop-pass-preserved : goal.loop-pass-preserved
loop-pass-preserved c =
    let i = c.loop-pass.invariant in
    let step : c.loop-pass.pass-iterator.rest.items ≡ c.in-Some.pass ∷ c.next.new.self.rest.items = search rules in
    let whole = ap (λ (l : List Holding). c.loop-pass.yielded ++ l) (sym step) ∙ i.2 in
    let more : length (c.loop-pass.yielded ++ c.in-Some.pass ∷ []) ≡ length c.loop-pass.yielded + 1 =
    length-append c.loop-pass.yielded (c.in-Some.pass ∷ []) in (
      tt,
      tt,
      append_assoc c.loop-pass.yielded (c.in-Some.pass ∷ []) c.next.new.self.rest.items ∙ whole,
      subst (λ (qs : List Stepper). AreSeatsOf (c.loop-pass.yielded ++ c.in-Some.pass ∷ []) qs)
          (sym c.push_reserved.ensures.items)
          (seats_push c.loop-pass.yielded c.loop-pass.seats.items c.in-Some.pass c.into_seat.result i.3
          c.into_seat.ensures),
      omega (arith, more, i.4, c.push_reserved.ensures.len),
      omega (arith, i.5, c.push_reserved.ensures.capacity),
    )
