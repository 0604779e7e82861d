use Rattle.ww_invariant.proofs.InsideMoves.{exit_makes}
use Rattle.ww_table_laws.proofs.laws_inside.exit_is_unguard.Goals as goal

pub returns : goal.returns
returns c = λ key s r id me n t may top. exit_makes key s r id me t.here t.seated n may top
