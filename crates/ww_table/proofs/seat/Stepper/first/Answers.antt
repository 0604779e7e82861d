use Rattle.std.proofs.Common.{ap}
use Rattle.ww_invariant.proofs.InsideTurning.{list_on_top}
use Rattle.ww_table.specs.declared.seat.Stepper.{Stepper}
use Rattle.ww_table.proofs.OnTop.{still_read}
use Rattle.ww_table.proofs.seat.Stepper.first.Goals as goal

pub first_there-requires-clause-top : goal.first_there-requires-clause-top
first_there-requires-clause-top c = let b = c.bring_list-slot.ensures in (_, list_on_top _ _ _ _ b.read b.slot)

pub returns : goal.returns
returns c = let b = c.bring_list-slot.ensures in let g = c.first_there.ensures in let top = list_on_top _ _ _ _ b.read b.slot in
    let r = still_read c.first_there.new.seat c.requires.at b g.home.0 g.same in record {
      seat = r.0;
      read = r.1;
      first = g.first _ top;
      records = ap (λ (s : Stepper). s.records) b.same;
    }
