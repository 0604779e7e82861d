use Rattle.ww_loops.proofs.Locking as kept
use Rattle.ww_loops.proofs.calls.lock_calls_take_their_lock.Goals as goal

pub returns : goal.returns
returns c = kept.lock_calls_take_their_lock
