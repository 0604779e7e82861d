use Rattle.std.proofs.Common.{sym, ◌∙◌}
use Rattle.ww_table_laws.proofs.Exclusion.{one_owner}
use Rattle.ww_callers.proofs.Held.{desk_owns, desk_number}
use Rattle.ww_callers.proofs.exclusion.desks_exclude.Goals as goal

pub returns : goal.returns
returns c = λ key s o id other d e n here there mine its.
    let one = one_owner key s o id other here.station.seat.me there.station.seat.me n here.steps there.steps
    (desk_owns s id d n here mine) (desk_owns s other e n there its) in
    (one.0, desk_number s id d here ∙ one.1 ∙ sym (desk_number s other e there))
