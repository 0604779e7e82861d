use Rattle.std.proofs.Common.{suc, ◌≡◌, ◌==◌, None, get_or}
use Rattle.ww_model.specs.State.{last_below}
use Rattle.ww_model.specs.Snapshot.{guard_number}
use Rattle.ww_model.proofs.terms.last_guarded_by.Given as goal

abbrev pub invariant-loop-n : goal.invariant-loop-n
invariant-loop-n l = l.last ≡ last_below l.n (λ n. guard_number (get_or l.guards n None) == suc l.seat)
