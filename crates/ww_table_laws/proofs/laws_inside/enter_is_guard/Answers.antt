use Rattle.ww_invariant.proofs.InsideMoves.{enter_makes}
use Rattle.ww_table_laws.proofs.laws_inside.enter_is_guard.Goals as goal

pub returns : goal.returns
returns c = λ key s r id me n t small may hit. enter_makes key s r id me t.here t.seated n small may hit
