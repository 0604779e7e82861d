use Rattle.ww_invariant.proofs.InsideMoves.{take_makes}
use Rattle.ww_table_laws.proofs.laws_inside.take_is_take.Goals as goal

pub returns : goal.returns
returns c = λ key s r id me n o y others t small may valid hit top. take_makes key s r id me t.here t.seated n o y
    others small may valid hit top
