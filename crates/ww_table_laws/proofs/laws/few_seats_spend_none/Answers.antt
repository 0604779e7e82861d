use Rattle.std.proofs.Common.{arith}
use Rattle.ww_invariant.proofs.Moves.{few_room}
use Rattle.ww_table_laws.proofs.laws.few_seats_spend_none.Goals as goal

pub returns : goal.returns
returns c = λ key s r few. (let z = few_room key s r few in let w = r.words.drawn in omega arith)
