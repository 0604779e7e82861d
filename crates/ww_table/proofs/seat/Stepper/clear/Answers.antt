use Rattle.std.proofs.Common.{arith}
use Rattle.ww_invariant.proofs.InsideSteps.{clears}
use Rattle.ww_table.proofs.Seated.{has_sign, own_sign_by_view}
use Rattle.ww_table.proofs.seat.Stepper.clear.Goals as goal

pub store-requires : goal.store-requires
store-requires c = let s = c.requires.at in (
  s.home,
  has_sign c.args.board.now c.args.self.now c.args.self.now.who _ s s.few (let word = s.sign in omega arith),
  clears _ _ _ _ s.seated _ (own_sign_by_view s) c.requires.may,
)
