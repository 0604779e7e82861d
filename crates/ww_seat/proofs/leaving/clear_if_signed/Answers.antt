use Rattle.std.proofs.Common.{sym, ◌∙◌}
use Rattle.ww_seat.proofs.Working.{cleared_same}
use Rattle.ww_seat.proofs.leaving.clear_if_signed.Goals as goal

pub returns-then-stamp-eq0-clause-cleared : goal.returns-then-stamp-eq0-clause-cleared
returns-then-stamp-eq0-clause-cleared c =
    cleared_same c.args.seat.now.seat.me (λ _. c.requires.seat.stamp ∙ sym c.stamp.ensures ∙ c.if-stamp-eq0.true)
