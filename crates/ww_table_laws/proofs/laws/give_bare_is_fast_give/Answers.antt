use Rattle.ww_invariant.proofs.Moves.{taker_valid, bare_give_makes}
use Rattle.ww_table_laws.proofs.laws.give_bare_is_fast_give.Goals as goal

pub returns : goal.returns
returns c = λ key s r id me n t big low away own hit. bare_give_makes key s r id me t.here t.seated n big low away
    own (taker_valid key s r id me t.here t.seated) hit
