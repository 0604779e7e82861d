use Rattle.ww_queue.proofs.Deaths.{wait_die_condemns}
use Rattle.ww_queue.proofs.laws.wait_die_condemns.Goals as goal

pub returns : goal.returns
returns c = wait_die_condemns
