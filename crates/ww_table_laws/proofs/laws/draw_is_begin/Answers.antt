use Rattle.ww_invariant.proofs.Moves.{draw_makes}
use Rattle.ww_table_laws.proofs.laws.draw_is_begin.Goals as goal

pub returns : goal.returns
returns c = λ key s r id me t may room. draw_makes key s r id me t.here t.seated may room
