use Rattle.std.proofs.Common.{◌≡◌, ◌≤◌, ◌*◌, ◌^◌, take, sum_by}
use Rattle.ww_plain.specs.declared.node.Node.{Node}
use Rattle.ww_bank.proofs.bank.total.Given as goal

abbrev pub invariant-loop-n : goal.invariant-loop-n
invariant-loop-n l =
    (l.total ≡ sum_by (λ (node : Node). node.value) (take l.n l.graph)) × (l.total ≤ l.n * 2 ^ 64)
