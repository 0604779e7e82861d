use Rattle.ww_invariant.proofs.Moves.{fast_give_makes, taker_valid}
use Rattle.ww_table_laws.proofs.laws.give_free_is_fast_give.Goals as goal

pub returns : goal.returns
returns c = λ key s r id me n x t small away own has top hit. fast_give_makes key s r id me t.here t.seated n x
    small away own has (taker_valid key s r id me t.here t.seated) hit top
