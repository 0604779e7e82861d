use Rattle.std.proofs.Common.{rules, arith, ℕ, ◌≡◌, ◌≢◌, refl, ◌<◌, ◌≤◌, ◌+◌, ◌∷◌, ◌++◌, [], List, length, length-append, sym, ap, ◌∙◌, subst}
use Rattle.atomic_table.specs.Table.{turned}
use Rattle.ww_invariant.specs.declared.cells.Cell.{Cell}
use Rattle.ww_invariant.specs.Out.{numbers_of, AreTurned}
use Rattle.ww_invariant.proofs.Turning.{last_read, last_taken, numbers_long, numbers_turned, unturned, turn_on, turned_to, exhausted}
use Rattle.ww_invariant.proofs.slots_out.turn_to.Goals as goal

pub loop-init : goal.loop-init
loop-init c = let f = c.len-end.ensures.fits in let v = c.len-end.ensures.value in
    (search rules, search rules, search rules, unturned _ _, search rules, omega arith, omega arith)

pub returns-then-deref-len-clause-slots : goal.returns-then-deref-len-clause-slots
returns-then-deref-len-clause-slots c = let inv = c.loop.invariant in
    let t = last_taken c.loop.seat.me.1 c.deref.result.now c.args.slot _ _ (c.deref.ensures.0 ∙ inv.4)
    (let l = inv.5 in let v = c.len.ensures.value in let b = c.loop-test.true in
    let d = ap length c.deref.ensures.0 in omega arith) c.if-deref-len.true in
    let old = c.args.seat.now.me.1 in let more : c.loop.counter < length old =
    (let l = numbers_long old in let m = ap length c.requires.order in let v = c.len-end.ensures.value in
    let b = c.loop-test.true in omega arith) in
    let u = turned_to old t.1 (c.args.slot, t.0) c.loop.counter c.args.slot
    (subst (λ (l : List (ℕ × Cell)). AreTurned old l c.loop.counter c.args.slot) t.2 inv.3) more refl in
    (t.0, t.1, u.0, u.1, t.2)

-- some slot is out, so one was taken last
some_last : (slots : List (ℕ × Cell)) → 0 < length slots → (x : ℕ × Cell) × (xs : List (ℕ × Cell)) × (slots ≡ x ∷ xs)
some_last [] some = absurd (omega arith)
some_last (x ∷ xs) some = (x, xs, refl)

pub turn_numbers-requires : goal.turn_numbers-requires
turn_numbers-requires c = let inv = c.loop.invariant in let l = inv.5 in let b = c.loop-test.true in omega arith

pub loop-preserved : goal.loop-preserved
loop-preserved c = let inv = c.loop.invariant in let here = c.loop.seat.me.1 in
    let t = some_last here (let n = numbers_long here in let m = ap length inv.4 in let l = inv.5 in
    let b = c.loop-test.true in omega arith) in
    let is : c.loop.order.items ≡ numbers_of t.1 ++ t.0.0 ∷ [] = inv.4 ∙ ap numbers_of t.2 in
    let new = c.turn_numbers.ensures (numbers_of t.1) t.0.0 is in
    let old = c.args.seat.now.me.1 in let more : c.loop.counter < length old =
    (let l = numbers_long old in let m = ap length c.requires.order in let v = c.len-end.ensures.value in
    let b = c.loop-test.true in omega arith) in
    let other : t.0.0 ≢ c.args.slot =
    λ same. c.if-deref-len.false (last_read c.deref.result.now (numbers_of t.1) t.0.0 _ _
    (c.deref.ensures.0 ∙ is)
    (let l = inv.5 in let v = c.len.ensures.value in let b = c.loop-test.true in
    let d = ap length c.deref.ensures.0 in omega arith) ∙ same) in
    let u = turn_on old t.1 t.0 c.loop.counter c.args.slot
    (subst (λ (l : List (ℕ × Cell)). AreTurned old l c.loop.counter c.args.slot) t.2 inv.3) more other in
    let now = ap (λ m. m.1) c.turn.ensures.2 ∙ ap turned t.2 in (
      c.turn.ensures.0 ∙ inv.0,
      c.turn.ensures.1 ∙ inv.1,
      ap (λ m. m.0) c.turn.ensures.2 ∙ inv.2,
      subst (λ (l : List (ℕ × Cell)). AreTurned old l (c.loop.counter + 1) c.args.slot) (sym now) u,
      new ∙ sym (numbers_turned t.1 t.0) ∙ sym (ap numbers_of now),
      (let a = ap length new in let b = ap length is in let l = inv.5 in
          let n = length-append (numbers_of t.1) (t.0.0 ∷ []) in omega arith),
      inv.6,
    )

pub returns-clause-slots : goal.returns-clause-slots
returns-clause-slots c = let inv = c.loop.invariant in let old = c.args.seat.now.me.1 in
    let over : length old ≤ c.loop.counter =
    (let l = numbers_long old in let m = ap length c.requires.order in let v = c.len-end.ensures.value in
    let b = c.loop-test.false in omega arith) in
    absurd (exhausted old c.loop.seat.me.1 c.loop.counter c.args.slot c.requires.out.0 inv.3 over c.requires.out.1)
