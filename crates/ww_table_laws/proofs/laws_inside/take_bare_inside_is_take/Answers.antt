use Rattle.ww_invariant.proofs.InsideMoves.{take_bare_makes}
use Rattle.ww_table_laws.proofs.laws_inside.take_bare_inside_is_take.Goals as goal

pub returns : goal.returns
returns c = λ key s r id me n o t big may valid hit. take_bare_makes key s r id me t.here t.seated n o big may valid hit
