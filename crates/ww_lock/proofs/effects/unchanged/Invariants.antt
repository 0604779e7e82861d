use Rattle.std.proofs.Common.{◌≡◌, ◌≤◌, length, map, take, vec_capacity}
use Rattle.ww_seat.specs.Commits.{change_at}
use Rattle.ww_lock.proofs.effects.unchanged.Given as goal

abbrev pub invariant-loop-n : goal.invariant-loop-n
invariant-loop-n l = (l.changes.items ≡ map (change_at l.graph l.graph) (take l.n-index l.nodes))
    × (length l.nodes ≤ vec_capacity l.changes)
