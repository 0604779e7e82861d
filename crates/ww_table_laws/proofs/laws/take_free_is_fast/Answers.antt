use Rattle.ww_invariant.proofs.Moves.{fast_makes}
use Rattle.ww_table_laws.proofs.laws.take_free_is_fast.Goals as goal

pub returns : goal.returns
returns c = λ key s r id me n t small may hit. fast_makes key s r id me t.here t.seated n small may hit
