use Rattle.std.proofs.Common.{arith}
use Rattle.ww_invariant.proofs.Moves.{mine}
use Rattle.ww_invariant.proofs.InsideMoves.{heed_makes}
use Rattle.ww_table_laws.proofs.laws_inside.heed_is_heed.Goals as goal

pub returns : goal.returns
returns c = λ key s r id me n t may isnt. let k = (mine key s r id me t.here t.seated).part.knows in
    heed_makes key s r id me t.here t.seated n _ may
    (r.words.cancels me.0.part.core.who (let z = k.itself.seat in let y = r.places in omega arith)) isnt
