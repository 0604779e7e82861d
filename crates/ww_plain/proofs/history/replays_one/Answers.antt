use Rattle.std.proofs.Common.{◌∙◌, sym}
use Rattle.ww_plain.proofs.Doubles.{no_double_is_none}
use Rattle.ww_plain.proofs.history.replays_one.Goals as goal

pub returns-then-is_some : goal.returns-then-is_some
returns-then-is_some c = λ next. no_double_is_none _ c.first_double.result c.first_double.ensures
    (sym c.is_some.ensures ∙ c.if-is_some.true) next.no_double
