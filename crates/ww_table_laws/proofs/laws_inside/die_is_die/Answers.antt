use Rattle.ww_view.proofs.Shows.{tells_die}
use Rattle.ww_view.proofs.Deaths.{die_met}
use Rattle.ww_invariant.proofs.Moves.{law, mine, found}
use Rattle.ww_invariant.proofs.InsideMoves.{inside_low, die_makes}
use Rattle.ww_table_laws.proofs.laws_inside.die_is_die.Goals as goal

-- the seat dies of what the core tells it, and met that context
pub returns : goal.returns
returns c = λ key s r id me n o k t may valid hit. let v = me.0.part.core in
    let knows = (mine key s r id me t.here t.seated).part.knows in
    let low = inside_low key s r id me t.here t.seated n may.inside in
    let is = found key s r id me t.here t.seated n o low valid hit in (
      tells_die r.core v (law key s r id me t.here t.seated) knows n o k may is,
      λ run. die_met r.core run v n o k
          knows may is,
      die_makes key s r id me t.here t.seated n o k may valid hit,
    )
