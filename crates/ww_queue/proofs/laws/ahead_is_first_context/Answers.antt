use Rattle.ww_queue.proofs.Aheads.{ahead_is_first_context}
use Rattle.ww_queue.proofs.laws.ahead_is_first_context.Goals as goal

pub returns : goal.returns
returns c = ahead_is_first_context
