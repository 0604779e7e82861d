use Rattle.ww_table_laws.proofs.One.{core_is_one, log_is_one}
use Rattle.ww_table_laws.proofs.laws.shown_is_one.Goals as goal

pub returns : goal.returns
returns c = λ key s r r'. (core_is_one key s r r', log_is_one key s r r')
