use Rattle.std.proofs.Common.{ℕ, ◌<◌, ◌≤◌, take}
use Rattle.std.specs.List.{AllByRecursion}
use Rattle.ww_table.proofs.close.reach.Given as goal

abbrev pub invariant-loop-seat : goal.invariant-loop-seat
invariant-loop-seat l = AllByRecursion (λ s. AllByRecursion (λ p. p.0 < l.reach) s.records.items)
    (take l.seat-index l.seats) × ((n : ℕ)
    → AllByRecursion (λ s. AllByRecursion (λ p. p.0 < n) s.records.items) l.seats → l.reach ≤ n)
