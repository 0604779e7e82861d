use Rattle.std.proofs.Common.{arith, refl, ◌∙◌}
use Rattle.ww_invariant.proofs.InsideSteps.{signs}
use Rattle.ww_invariant.proofs.Moves.{same_shot}
use Rattle.ww_table.proofs.Seated.{either, has_sign, sign_by_view}
use Rattle.ww_table.proofs.seat.Stepper.sign.Goals as goal

pub compare_exchange-requires : goal.compare_exchange-requires
compare_exchange-requires c = let s = c.requires.at in let few = c.requires.may.0 in (
  s.home,
  has_sign c.args.board.now c.args.self.now c.args.victim _ s (let same = s.seats in omega arith) (let word = c.sign_word.ensures in omega arith),
  same_shot refl (c.sign_word.ensures ∙ sign_by_view c.args.victim s) refl refl
      (signs _ _ _ _ s.seated c.args.lock c.args.victim c.args.stamp few c.requires.may.1),
)

pub returns : goal.returns
returns c = let s = c.requires.at in let e = c.compare_exchange.ensures in
    either s e.0 (e.2 c.args.victim (c.sign_word.ensures ∙ sign_by_view c.args.victim s)) (refl, refl)
