use Rattle.ww_invariant.proofs.InsideMoves.{give_bare_makes}
use Rattle.ww_table_laws.proofs.laws_inside.give_bare_inside_is_give.Goals as goal

pub returns : goal.returns
returns c = λ key s r id me n o t big may valid hit. give_bare_makes key s r id me t.here t.seated n o big may valid hit
