use Rattle.ww_loops.proofs.Wanting as kept
use Rattle.ww_loops.proofs.calls.lock_calls_want_their_lock.Goals as goal

pub returns : goal.returns
returns c = kept.lock_calls_want_their_lock
