use Rattle.ww_laws.proofs.Dues as kept
use Rattle.ww_laws.proofs.going_on.due_locks_are_taken.Goals as goal

pub returns : goal.returns
returns c = kept.due_locks_are_taken
