use Rattle.ww_invariant.proofs.Places.{place_makes}
use Rattle.ww_table_laws.proofs.laws.place_is_commit.Goals as goal

pub returns : goal.returns
returns c = λ key s r id me done t may. place_makes key s r id me t.here t.seated done may
