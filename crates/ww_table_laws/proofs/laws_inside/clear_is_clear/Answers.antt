use Rattle.ww_invariant.proofs.InsideMoves.{clear_makes}
use Rattle.ww_table_laws.proofs.laws_inside.clear_is_clear.Goals as goal

pub returns : goal.returns
returns c = λ key s r id me t may. clear_makes key s r id me t.here t.seated may
