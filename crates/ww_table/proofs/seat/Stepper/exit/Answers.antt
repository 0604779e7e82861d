use Rattle.std.proofs.Common.{arith, ap, ◌∙◌, ℕ, ◌+◌}
use Rattle.ww_invariant.proofs.InsideSteps.{exits}
use Rattle.ww_table.proofs.Seated.{has_word, by_rule}
use Rattle.ww_table.proofs.seat.Stepper.exit.Goals as goal

pub store-requires : goal.store-requires
store-requires c = let s = c.requires.at in let may = c.requires.may in let b = c.bring_list.ensures in
    let word = c.guard_word.ensures ∙ ap (λ (i : ℕ). i + 1) (by_rule c.args.board.now c.args.lock) in (
      (b.seat _ s).home,
      has_word c.args.board.now c.args.lock _ may.lock (omega (arith, word)),
      exits _ _ _ _ (b.seat _ s).seated c.args.lock _ _ b.read word may.may.exit,
    )
