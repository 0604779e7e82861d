use Rattle.ww_table_laws.proofs.Exclusion.{one_owner}
use Rattle.ww_table_laws.proofs.laws.owners_exclude.Goals as goal

pub returns : goal.returns
returns c = λ key s o id other me it n here there mine its. one_owner key s o id other me it n here there mine its
