use Rattle.std.proofs.Common.{arith, refl, ◌∙◌}
use mathlib.Core.Logic.{dite}
use native.Mathlib.Decide.{ℕ_discrete}
use Rattle.ww_invariant.specs.Cancels.{finding_uncancelled, heeding}
use Rattle.ww_invariant.proofs.InsideSteps.{heeds}
use Rattle.ww_table.proofs.Seated.{stepped, has_sign, own_cancel_by_view}
use Rattle.ww_table.proofs.seat.Stepper.heed.Goals as goal

pub swap-requires : goal.swap-requires
swap-requires c = let s = c.requires.at in (
  s.home,
  has_sign c.args.board.now c.args.self.now c.args.self.now.who _ s s.few (let word = c.cancel_word.ensures in omega arith),
  heeds _ _ _ _ s.seated c.args.lock _ (c.cancel_word.ensures ∙ own_cancel_by_view s) c.requires.may,
)

pub returns : goal.returns
returns c = let s = c.requires.at in let e = c.swap.ensures in let v = c.args.self.now.seat.me.0 in
    let heard = e.2 (c.cancel_word.ensures ∙ own_cancel_by_view s) in record {
      seat = dite (ℕ_discrete c.swap.result 0) (λ none. stepped (finding_uncancelled v) s e.0 (heard.0 none) refl)
          (λ some. stepped (heeding v c.swap.result) s e.0 (heard.1 some) refl);
      records = refl;
      few = heard.2;
      none = heard.0;
      heeded = heard.1;
    }
