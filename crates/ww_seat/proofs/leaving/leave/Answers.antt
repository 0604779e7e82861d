use Rattle.std.proofs.Common.{rules}
use Rattle.ww_seat.proofs.Working.{may_leave, left_view, left_orderly}
use Rattle.ww_seat.proofs.leaving.leave.Goals as goal

pub exit-requires-clause-may : goal.exit-requires-clause-may
exit-requires-clause-may c = record {
  lock = c.requires.at.lock;
  may = may_leave c.take_sign_back.ensures.cleared c.requires.may c.requires.at.orderly.unheeded;
  list = search rules;
}

pub returns-clause-out : goal.returns-clause-out
returns-clause-out c = let cleared = c.take_sign_back.ensures.cleared in record {
  orderly = left_orderly c.requires.at.orderly cleared c.requires.may.inside c.exit.ensures.view c.exit.ensures.home;
  view = left_view c.exit.new.self.seat.me cleared c.exit.ensures.view;
}
