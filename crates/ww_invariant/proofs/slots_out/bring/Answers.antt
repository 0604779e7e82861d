use Rattle.std.proofs.Common.{◌≡◌, ℕ, ◌<◌, arith, refl, [], ◌∷◌, List, length, ap, ◌∙◌, subst, Some}
use Rattle.ww_invariant.specs.declared.cells.Cell.{Cell}
use Rattle.ww_invariant.specs.Out.{slot_of, AreTurned}
use Rattle.ww_invariant.proofs.Turning.{last_taken, numbers_long, unturned, turned_to}
use Rattle.ww_invariant.proofs.slots_out.bring.Goals as goal

some_out : (slots : List (ℕ × Cell)) (n : ℕ) (y : Cell) → slot_of slots n ≡ Some y → 0 < length slots
some_out [] n y e = absurd cc
some_out (x ∷ xs) n y e = omega arith

pub overflow_sub-len : goal.overflow_sub-len
overflow_sub-len c = let some = some_out c.args.seat.now.me.1 c.args.slot c.requires.out.0 c.requires.out.1 in
    let l = numbers_long c.args.seat.now.me.1 in let m = ap length c.requires.order in
    let v = c.len.ensures.value in omega arith

pub bounds-deref-len : goal.bounds-deref-len
bounds-deref-len c = let some = some_out c.args.seat.now.me.1 c.args.slot c.requires.out.0 c.requires.out.1 in
    let l = numbers_long c.args.seat.now.me.1 in let m = ap length c.requires.order in
    let v = c.len.ensures.value in let d = ap length c.deref.ensures.0 in omega arith

pub returns-else-deref-len-clause-slots : goal.returns-else-deref-len-clause-slots
returns-else-deref-len-clause-slots c = let old = c.args.seat.now.me.1 in
    let some = some_out old c.args.slot c.requires.out.0 c.requires.out.1 in
    let t = last_taken old c.deref.result.now c.args.slot _ _ (c.deref.ensures.0 ∙ c.requires.order)
    (let l = numbers_long old in let m = ap length c.requires.order in let v = c.len.ensures.value in
    let d = ap length c.deref.ensures.0 in omega arith) c.if-deref-len.false in
    let u = turned_to old t.1 (c.args.slot, t.0) 0 c.args.slot
    (subst (λ (l : List (ℕ × Cell)). AreTurned old l 0 c.args.slot) t.2 (unturned old c.args.slot)) some refl in
    (t.0, t.1, u.0, u.1, t.2)
