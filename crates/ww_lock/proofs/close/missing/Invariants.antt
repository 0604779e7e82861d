use Rattle.std.proofs.Common.{◌≡◌, ◌≤◌}
use Rattle.ww_lock.specs.Closed.{missing_of}
use Rattle.ww_lock.proofs.close.missing.Given as goal

abbrev pub invariant-loop-caller : goal.invariant-loop-caller
invariant-loop-caller l = (l.missing ≡ missing_of l.caller l.passes) × (l.missing ≤ l.caller)
