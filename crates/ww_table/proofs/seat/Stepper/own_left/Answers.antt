use Rattle.std.proofs.Common.{sym, subst, Some, ◌∙◌}
use Rattle.ww_word.specs.declared.owner.Owner.{Owner}
use Rattle.ww_word.specs.Owner.{AreFlags}
use Rattle.ww_word.specs.AnySeats.{IsValid}
use Rattle.ww_queue.specs.Queue.{left}
use Rattle.ww_invariant.proofs.InsideTurning.{waiting_flags}
use Rattle.ww_table.proofs.OnTop.{number_before, stamp_before}
use Rattle.ww_table.proofs.seat.Stepper.own_left.Goals as goal

pub returns : goal.returns
returns c = let r = c.flag_left-flags.ensures in let v = c.args.self.now.seat.me.0 in record {
  seat = r.seat;
  read = r.read;
  owner = c.of.ensures ∙ (λ i. let w : Owner = record {
    seat = Some (sym (number_before _ _ _ _ r.seat r.read) i);
    stamp = sym (stamp_before _ _ _ _ r.seat r.read) i;
    flags = r.flag i;
  } in w);
  valid = subst IsValid (sym c.of.ensures) (record {
    seating = r.seat.fits;
    flags = subst AreFlags (sym r.flag) (waiting_flags (left v.part.core.list v.part.core.who));
  });
  same = r.same;
}
