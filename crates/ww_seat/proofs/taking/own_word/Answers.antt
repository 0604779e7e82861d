use Rattle.std.proofs.Common.{rules, sym, ◌∙◌}
use Rattle.ww_seat.proofs.Took.{word_is, waiting_first, waiting_none, read_who, read_stamp}
use Rattle.ww_seat.proofs.taking.own_word.Goals.{in-Some, in-None}
use Rattle.ww_seat.proofs.taking.own_word.Goals as goal

pub returns-clause-word : goal.returns-clause-word
returns-clause-word c = let m = c.args.seat.now.seat.me in record {
  read = c.first.ensures.read;
  word = c.of.ensures ∙ word_is m.0.part.core.list c.match-first.flags (c.who.ensures ∙ read_who c.first.ensures.read c.first.ensures.seat.who)
      (c.stamp.ensures ∙ read_stamp c.first.ensures.read c.first.ensures.seat.stamp) (elim c.match-first.branch [
        | in-Some w ↦ w.flags-is ∙ waiting_first m.0.part.core.list (sym c.first.ensures.first ∙ w.in-Some.is)
        | in-None w ↦ w.flags-is ∙ waiting_none m.0.part.core.list (sym c.first.ensures.first ∙ w.in-None.is)
      ]);
  valid = search rules;
}
