use Rattle.ww_invariant.proofs.InsideMoves.{join_makes}
use Rattle.ww_table_laws.proofs.laws_inside.join_is_join.Goals as goal

pub returns : goal.returns
returns c = λ key s r id me n o t may valid hit. join_makes key s r id me t.here t.seated n o may valid hit
