use Rattle.ww_invariant.proofs.Moves.{end_makes}
use Rattle.ww_table_laws.proofs.laws.end_is_end.Goals as goal

pub returns : goal.returns
returns c = λ key s r id me t may hit. end_makes key s r id me t.here t.seated may hit
