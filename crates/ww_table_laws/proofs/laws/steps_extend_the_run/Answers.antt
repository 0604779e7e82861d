use Rattle.std.proofs.Common.{◌∙◌}
use Rattle.ww_table_laws.proofs.One.{core_is_one, log_is_one}
use Rattle.ww_table_laws.proofs.laws.steps_extend_the_run.Goals as goal

pub returns : goal.returns
returns c = λ key s r e log s' makes r'. (core_is_one key s' r' makes.ruled ∙ makes.is, log_is_one key s' r' makes.ruled ∙ makes.commits)
