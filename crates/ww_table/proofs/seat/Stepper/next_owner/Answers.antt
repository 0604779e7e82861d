use Rattle.std.proofs.Common.{ap}
use Rattle.ww_invariant.proofs.InsideTurning.{list_on_top}
use Rattle.ww_table.specs.declared.seat.Stepper.{Stepper}
use Rattle.ww_table.proofs.OnTop.{still_read}
use Rattle.ww_table.proofs.seat.Stepper.next_owner.Goals as goal

pub owner_there-requires-clause-top : goal.owner_there-requires-clause-top
owner_there-requires-clause-top c = let b = c.bring_list-slot.ensures in (_, list_on_top _ _ _ _ b.read b.slot)

pub returns : goal.returns
returns c = let b = c.bring_list-slot.ensures in let g = c.owner_there.ensures in let top = list_on_top _ _ _ _ b.read b.slot in
    let r = still_read c.owner_there.new.seat c.requires.at b g.home.0 g.same in record {
      seat = r.0;
      read = r.1;
      owner = g.owner _ top;
      same = ap (λ (s : Stepper). record s { seat = c.owner_there.new.seat }) b.same;
    }
