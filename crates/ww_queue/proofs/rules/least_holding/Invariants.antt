use Rattle.std.proofs.Common.{◌≡◌, drop}
use Rattle.ww_queue.specs.Rules.{least_holding, least_of}
use Rattle.ww_queue.proofs.rules.least_holding.Given as goal

abbrev pub invariant-loop-waiter : goal.invariant-loop-waiter
invariant-loop-waiter l = least_of l.least (least_holding (drop l.waiter-index l.waiters)) ≡ least_holding l.waiters
