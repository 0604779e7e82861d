use Rattle.std.proofs.Common.{◌≡◌, take}
use Rattle.ww_queue.specs.Rules.{owed_deaths}
use Rattle.ww_queue.proofs.rules.owed_deaths.Given as goal

abbrev pub invariant-loop-waiter : goal.invariant-loop-waiter
invariant-loop-waiter l = l.owed.items ≡ owed_deaths l.owner l.queue l.me (take l.waiter-index l.queue)
