use Rattle.std.proofs.Common.{ℕ, ◌<◌}
use Rattle.ww_model.specs.Least.{DiesAt}
use Rattle.ww_model.specs.Snapshot.{state_of}
use Rattle.ww_model.proofs.state.Core.dies_some.Given as goal

abbrev pub invariant-loop-lock : goal.invariant-loop-lock
invariant-loop-lock l = (n : ℕ) → n < l.lock → ¬ DiesAt (state_of l.self) l.seat n
