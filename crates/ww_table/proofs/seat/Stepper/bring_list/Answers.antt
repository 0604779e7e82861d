use Rattle.std.proofs.Common.{◌+◌, ap, refl, ◌∙◌}
use Rattle.ww_invariant.specs.declared.cells.Cell.TheVariants.{Line}
use Rattle.ww_invariant.specs.Out.{slot_of}
use Rattle.ww_invariant.proofs.InsideTurning.{slot_brought}
use Rattle.ww_table.proofs.Seated.{seated_as}
use Rattle.ww_table.proofs.seat.Stepper.bring_list.Goals as goal

pub bring-requires-clause-out : goal.bring-requires-clause-out
bring-requires-clause-out c = (
  Line c.args.self.now.seat.me.0.part.core.list,
  ap (slot_of c.args.self.now.seat.me.1) c.list_slot-slot.ensures ∙ c.requires.may.list,
)

pub returns : goal.returns
returns c = let b = c.bring.ensures in let was = c.args.self.now.seat.me.1 in
    let l = slot_brought was was (64 + c.args.lock) c.list_slot-slot.result (Line c.args.self.now.seat.me.0.part.core.list) refl
    c.list_slot-slot.ensures c.requires.may.list b.slots in record {
      slot = c.list_slot-slot.ensures;
      same = refl;
      seat = λ t was. seated_as c.args.self.now.seat.me.0 was b.home.0 b.view refl refl b.order;
      read = record { others = b.slots.1; apart = l.0; now = λ i. (b.view i, l.1 i) };
    }
