use Rattle.std.proofs.Common.{ℕ, ◌≤◌, ◌<◌, length, get_or}
use Rattle.ww_run.proofs.workers.budget.Given as goal

abbrev pub invariant-loop-acts : goal.invariant-loop-acts
invariant-loop-acts l =
    (1 ≤ l.most) × (l.most ≤ 10000)
    × ((k : ℕ) (d : _) → k < l.acts-index → length (get_or l.scripts k d).items ≤ l.most)
    × ((other : ℕ) → 1 ≤ other → ((k : ℕ) (d : _) → k < l.acts-index → length (get_or l.scripts k d).items ≤ other) → l.most ≤ other)
