use Rattle.std.proofs.Common.{ap, ℕ, sym, ◌∙◌}
use Rattle.ww_queue.specs.Queue.{left}
use Rattle.ww_model.specs.State.{waiting}
use Rattle.ww_invariant.proofs.InsideTurning.{list_on_top}
use Rattle.ww_table.specs.declared.seat.Stepper.{Stepper}
use Rattle.ww_table.proofs.OnTop.{still_read, number_before}
use Rattle.ww_table.proofs.seat.Stepper.flag_left.Goals as goal

pub flag_there-requires-clause-top : goal.flag_there-requires-clause-top
flag_there-requires-clause-top c = let b = c.bring_list-slot.ensures in (_, list_on_top _ _ _ _ b.read b.slot)

pub returns : goal.returns
returns c = let b = c.bring_list-slot.ensures in let g = c.flag_there.ensures in let top = list_on_top _ _ _ _ b.read b.slot in
    let r = still_read c.flag_there.new.seat c.requires.at b g.home.0 g.same in record {
      seat = r.0;
      read = r.1;
      flag = g.flag _ top ∙ ap (λ (who : ℕ). waiting (left c.args.self.now.seat.me.0.part.core.list who))
          (sym (number_before _ _ _ _ (b.seat _ c.requires.at) b.read));
      same = ap (λ (s : Stepper). record s { seat = c.flag_there.new.seat }) b.same;
    }
