use Rattle.std.proofs.Common.{ℕ, ◌≡◌, ◌≢◌, ◌%◌, set, get_or, sym, subst}
use Rattle.ww_seat.specs.Marks.{is_marked, IsMarked}
use Rattle.ww_seat.proofs.Marking.{with_bit, marked_here, marked_others}
use Rattle.ww_seat.proofs.wake.set_mark.Goals as goal

pub returns-clause-here : goal.returns-clause-here
returns-clause-here c =
    subst (λ (i : ℕ). IsMarked (set c.args.marks.now i (with_bit (get_or c.args.marks.now i 0) (c.args.u % 64))) c.args.u)
    (sym c.from.ensures) (marked_here c.args.marks.now c.args.u c.requires.there)

pub returns-clause-others : goal.returns-clause-others
returns-clause-others c =
    subst (λ (i : ℕ). (t : ℕ) → t ≢ c.args.u
    → is_marked (set c.args.marks.now i (with_bit (get_or c.args.marks.now i 0) (c.args.u % 64))) t ≡ is_marked c.args.marks.now t)
    (sym c.from.ensures) (marked_others c.args.marks.now c.args.u c.requires.there)
