use Rattle.std.proofs.Common.{◌≡◌, map, take}
use Rattle.std.specs.List.{AllByRecursion}
use Rattle.ww_seat.specs.Bells.{leads_to, rings_at, rung}
use Rattle.ww_lock.proofs.world.hung.Given as goal

abbrev pub invariant-loop-wire : goal.invariant-loop-wire
invariant-loop-wire l = (map rings_at l.bells.items ≡ map leads_to (take l.wire-index l.wires))
    × AllByRecursion (λ b. rung b ≡ 0) l.bells.items
