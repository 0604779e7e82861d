use Rattle.std.proofs.Common.{◌∙◌}
use Rattle.ww_invariant.proofs.InsideSteps.{glances_outside}
use Rattle.ww_table.proofs.Seated.{has_lock, by_rule}
use Rattle.ww_table.proofs.seat.Stepper.glance.Goals as goal

pub load-word-requires : goal.load-word-requires
load-word-requires c = let s = c.requires.at in let low = c.requires.may.0 in (
  s.home,
  has_lock c.args.board.now c.args.lock _ low c.owner_word.ensures,
  glances_outside _ _ _ _ s.seated c.args.lock _ (c.owner_word.ensures ∙ by_rule c.args.board.now c.args.lock) low,
)
