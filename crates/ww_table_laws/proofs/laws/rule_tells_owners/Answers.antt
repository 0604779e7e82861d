use Rattle.ww_table_laws.proofs.Exclusion as Exclusion
use Rattle.ww_table_laws.proofs.laws.rule_tells_owners.Goals as goal

pub returns : goal.returns
returns c = λ key s r. Exclusion.rule_tells_owners key s r
