use Rattle.std.proofs.Common.{ℕ, ◌≤◌, take}
use Rattle.ww_lock.specs.Closed.{AreAllBelow}
use Rattle.ww_lock.proofs.close.reach.Given as goal

abbrev pub invariant-loop-pass : goal.invariant-loop-pass
invariant-loop-pass l = AreAllBelow l.reach (take l.pass-index l.passes) × ((n : ℕ) → AreAllBelow n l.passes → l.reach ≤ n)
