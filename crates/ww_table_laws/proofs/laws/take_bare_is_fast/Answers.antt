use Rattle.ww_invariant.proofs.Moves.{bare_makes}
use Rattle.ww_table_laws.proofs.laws.take_bare_is_fast.Goals as goal

pub returns : goal.returns
returns c = λ key s r id me n t big low may hit. bare_makes key s r id me t.here t.seated n big low may hit
