use Rattle.ww_loops.proofs.Idling as kept
use Rattle.ww_loops.proofs.calls.other_calls_want_none.Goals as goal

pub returns : goal.returns
returns c = kept.other_calls_want_none
