use Rattle.ww_invariant.proofs.InsideMoves.{give_makes}
use Rattle.ww_table_laws.proofs.laws_inside.give_is_give.Goals as goal

pub returns : goal.returns
returns c = λ key s r id me n o x t may has valid hit top. give_makes key s r id me t.here t.seated n o x may has valid hit top
