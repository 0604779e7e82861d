use Rattle.std.proofs.Common.{◌≡◌, [], replicate}
use Rattle.ww_model.proofs.state.empty_queues.Given as goal

abbrev pub invariant-loop : goal.invariant-loop
invariant-loop l = l.queues.items ≡ replicate l.counter []
