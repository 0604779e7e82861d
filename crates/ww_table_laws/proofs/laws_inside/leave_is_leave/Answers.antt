use Rattle.std.proofs.Common.{ℕ, ◌-◌, sym, ap}
use Rattle.ww_model.specs.declared.event.Answer.TheVariants.{Interrupted}
use Rattle.ww_invariant.proofs.Moves.{mine}
use Rattle.ww_invariant.proofs.InsideMoves.{leave_makes}
use Rattle.ww_table_laws.proofs.laws_inside.leave_is_leave.Goals as goal

pub returns : goal.returns
returns c = λ key s r id me n o t may valid hit. let k = (mine key s r id me t.here t.seated).part.knows in
    (ap (λ (x : ℕ). Interrupted (x - 1)) (sym k.heeded), leave_makes key s r id me t.here t.seated n o may valid hit)
