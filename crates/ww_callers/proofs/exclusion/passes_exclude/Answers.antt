use Rattle.std.proofs.Common.{sym, ◌∙◌}
use Rattle.ww_table_laws.proofs.Exclusion.{one_owner}
use Rattle.ww_callers.proofs.Held.{pass_owns, pass_number}
use Rattle.ww_callers.proofs.exclusion.passes_exclude.Goals as goal

pub returns : goal.returns
returns c = λ key s o id other h k n here there mine its.
    let one = one_owner key s o id other here.hand.seat.me there.hand.seat.me n here.steps there.steps
    (pass_owns s id h n here mine) (pass_owns s other k n there its) in
    (one.0, pass_number s id h here ∙ one.1 ∙ sym (pass_number s other k there))
