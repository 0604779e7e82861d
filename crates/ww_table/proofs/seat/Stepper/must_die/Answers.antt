use Rattle.std.proofs.Common.{ap, ◌∙◌}
use Rattle.ww_queue.specs.Rules.{must_die}
use Rattle.ww_invariant.proofs.InsideTurning.{list_on_top}
use Rattle.ww_table.specs.declared.seat.Stepper.{Stepper}
use Rattle.ww_table.proofs.OnTop.{still_read}
use Rattle.ww_table.proofs.seat.Stepper.must_die.Goals as goal

pub death_there-requires-clause-top : goal.death_there-requires-clause-top
death_there-requires-clause-top c = let b = c.bring_list-slot.ensures in (_, list_on_top _ _ _ _ b.read b.slot)

pub returns : goal.returns
returns c = let b = c.bring_list-slot.ensures in let g = c.death_there.ensures in let top = list_on_top _ _ _ _ b.read b.slot in
    let r = still_read c.death_there.new.seat c.requires.at b g.home.0 g.same in record {
      seat = r.0;
      read = r.1;
      death = g.death _ top
          ∙ ap (λ (s : Stepper). must_die s.kind c.args.seen c.args.self.now.seat.me.0.part.core.list s.who c.args.sign) b.same;
      records = ap (λ (s : Stepper). s.records) b.same;
    }
