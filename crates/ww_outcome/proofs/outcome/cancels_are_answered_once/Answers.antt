use Rattle.ww_outcome.proofs.Answering.{each_answered_once}
use Rattle.ww_outcome.proofs.outcome.cancels_are_answered_once.Goals as goal

pub returns : goal.returns
returns c = each_answered_once
