use Rattle.ww_queue.proofs.Deaths.{wound_wait_condemns}
use Rattle.ww_queue.proofs.laws.wound_wait_condemns.Goals as goal

pub returns : goal.returns
returns c = wound_wait_condemns
