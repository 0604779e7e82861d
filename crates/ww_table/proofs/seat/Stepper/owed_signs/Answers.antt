use Rattle.std.proofs.Common.{ap, ◌≡◌, ◌++◌, subst, IfSome, IfNone}
use Rattle.ww_queue.specs.AnySeats.{signs_past}
use Rattle.ww_invariant.proofs.InsideTurning.{list_on_top}
use Rattle.ww_table.specs.declared.seat.Stepper.{Stepper}
use Rattle.ww_table.proofs.OnTop.{still_read}
use Rattle.ww_table.proofs.seat.Stepper.owed_signs.Goals as goal

pub owed_there-requires-clause-top : goal.owed_there-requires-clause-top
owed_there-requires-clause-top c = let b = c.bring_list-slot.ensures in (_, list_on_top _ _ _ _ b.read b.slot)

pub returns : goal.returns
returns c = let b = c.bring_list-slot.ensures in let g = c.owed_there.ensures in let top = list_on_top _ _ _ _ b.read b.slot in
    let r = still_read c.owed_there.new.seat c.requires.at b g.home.0 g.same in record {
      seat = r.0;
      read = r.1;
      all = subst (λ (s : Stepper). IfNone c.owed_there.result.1 (c.owed_there.result.0.items
          ≡ signs_past s.kind c.args.seen c.args.self.now.seat.me.0.part.core.list s.who c.args.from)) b.same (g.all _ top);
      some = subst (λ (s : Stepper). IfSome c.owed_there.result.1 (λ next. c.owed_there.result.0.items
          ++ signs_past s.kind c.args.seen c.args.self.now.seat.me.0.part.core.list s.who next
          ≡ signs_past s.kind c.args.seen c.args.self.now.seat.me.0.part.core.list s.who c.args.from)) b.same (g.some _ top);
      further = g.further _ top;
      records = ap (λ (s : Stepper). s.records) b.same;
    }
