use Rattle.std.proofs.Common.{arith}
use Rattle.ww_invariant.proofs.Moves.{ends}
use Rattle.ww_table.proofs.Seated.{has_sign, own_sign_by_view}
use Rattle.ww_table.proofs.seat.Stepper.end.Goals as goal

pub load-sign-requires : goal.load-sign-requires
load-sign-requires c = let s = c.requires.at in (
  s.home,
  has_sign c.args.board.now c.args.self.now c.args.self.now.who _ s s.few (let word = s.sign in omega arith),
  ends _ _ _ _ s.seated _ (own_sign_by_view s) c.requires.may,
)
