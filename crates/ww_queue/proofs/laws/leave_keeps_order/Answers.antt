use Rattle.ww_queue.proofs.Leaves.{left_ascends, left_once, left_gone}
use Rattle.ww_queue.proofs.laws.leave_keeps_order.Goals as goal

pub returns : goal.returns
returns c = λ q seat. (left_ascends q seat, λ once. (left_once q seat once, left_gone q seat once))
