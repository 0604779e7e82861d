use Rattle.ww_invariant.proofs.InsideMoves.{cancel_makes}
use Rattle.ww_table_laws.proofs.laws_inside.cancel_is_cancel.Goals as goal

pub returns : goal.returns
returns c = λ key s r id me u t away low hit. cancel_makes key s r id me t.here t.seated u away low hit
