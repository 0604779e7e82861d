use Rattle.std.proofs.Common.{ℕ, ◌+◌, ◌*◌, List, Some, set, get_or, subst, refl, arith}
use Rattle.ww_seat.proofs.Marking.{without_bit}
use Rattle.ww_steps.specs.Answers.{IsMarkTaken}
use Rattle.ww_steps.proofs.Marks.{takes_mark}
use Rattle.ww_steps.proofs.going_on.take_mark.Goals as goal

pub returns-then-marks-i-ne0-clause-taken : goal.returns-then-marks-i-ne0-clause-taken
returns-then-marks-i-ne0-clause-taken c = let i = c.loop-i.invariant in
    let u : ℕ = 64 * c.loop-i.i + c.lowest-bit.result in
    subst (λ (m : List ℕ). IsMarkTaken m (Some u) (set c.loop-i.marks c.loop-i.i (without_bit (get_or c.loop-i.marks c.loop-i.i 0) c.lowest-bit.result)))
    i.0 (takes_mark c.loop-i.marks c.loop-i.i c.lowest-bit.result u
    (let low = c.loop-i-test.true in let long = c.loop-i.auto.marks in omega arith) c.lowest-bit.ensures.small refl c.lowest-bit.ensures.set)
