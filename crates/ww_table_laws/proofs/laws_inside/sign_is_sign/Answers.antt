use Rattle.ww_invariant.proofs.InsideMoves.{sign_makes}
use Rattle.ww_table_laws.proofs.laws_inside.sign_is_sign.Goals as goal

pub returns : goal.returns
returns c = λ key s r id me n u k t may low hit. sign_makes key s r id me t.here t.seated n u k may low hit
