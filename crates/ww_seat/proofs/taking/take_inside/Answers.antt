use Rattle.std.proofs.Common.{ap, arith, refl, sym, ◌∙◌, Some}
use Rattle.ww_word.specs.declared.owner.Owner.{Owner}
use Rattle.ww_invariant.specs.declared.cells.Sight.{Sight}
use Rattle.ww_table.specs.Seat.{size_of}
use Rattle.ww_plain.specs.declared.node.Node.{Node}
use Rattle.ww_seat.specs.Work.{deeds_of, HasCondemnedNone, HasTakenInside}
use Rattle.ww_seat.proofs.Coming.{come_same, come_touched, marks_idle, marks_idle_then, marks_then}
use Rattle.ww_seat.proofs.Working.{none_condemned}
use Rattle.ww_seat.proofs.Took.{taken_read, owes_after, taken_goes, look_taken, word_read, own_there}
use Rattle.ww_seat.proofs.Naps.{awake_then, awake_left, awake_noted}
use Rattle.ww_seat.proofs.taking.take_inside.Goals.{After-own_word-word}
use Rattle.ww_seat.proofs.taking.take_inside.Goals as goal

pub returns-then-not-take_seen-clause-came : goal.returns-then-not-take_seen-clause-came
returns-then-not-take_seen-clause-came c = λ stands again waits working. come_touched (come_same c.args.board.now waits c.args.wake.now
    c.requires.at.2.orderly working c.requires.marks.woken) (c.take_seen.ensures.tried.lost c.if-not-take_seen.true)

-- it has the lock, and has read its own word: m2 then
has_it : (c : After-own_word-word) → (x : Node) × HasTakenInside (size_of c.args.board.now) c.args.lock c.args.seat.now.seat.me x c.own_word-word.new.seat.seat.me
has_it c = let t = c.take_seen.ensures.tried.took c.if-not-take_seen.false in (t.0, taken_read t.1 c.own_word-word.ensures.word.read)

pub sign_all-requires-clause-at : goal.sign_all-requires-clause-at
sign_all-requires-clause-at c = let t = has_it (goal.at.sign_all-requires-clause-at c).After-own_word-word in record {
  seat = c.own_word-word.ensures.same.seat;
  lock = c.requires.at.2.lock;
  orderly = t.1.orderly;
  inside = ap (λ (z : Sight). z.part.core.inside) t.1.view ∙ c.requires.at.2.working.inside;
}

pub sign_all-requires-clause-seen : goal.sign_all-requires-clause-seen
sign_all-requires-clause-seen c = let m2 = c.own_word-word.new.seat.seat.me in let seat = c.own_word-word.ensures.same.seat in
    let owes = owes_after c.requires.at.2.working (has_it (goal.at.sign_all-requires-clause-seen c).After-own_word-word).1 in
    let word = word_read c.own_word-word.ensures.word in record {
      seen = owes.seen ∙ ap Some (sym word);
      there = λ u is. own_there m2.0.part.core.seats (ap (λ (o : Owner). o.seat) word) (omega (arith, seat.few, seat.who, seat.seats)) is;
      seats = owes.seats;
      once = owes.once;
    }

pub leave-requires-clause-may : goal.leave-requires-clause-may
leave-requires-clause-may c = taken_goes c.requires.at.2.working (has_it (goal.at.leave-requires-clause-may c).After-own_word-word).1
    (word_read c.own_word-word.ensures.word) c.sign_all.ensures.signed.0

pub returns-clause-came : goal.returns-clause-came
returns-clause-came c = λ stands again waits working. let m = c.args.seat.now.seat.me in
    let m2 = c.own_word-word.new.seat.seat.me in let m3 = c.sign_all.new.seat.seat.me in
    let m5 = c.node_or_blank.new.seat.seat.me in let n = c.node_or_blank.ensures.read in
    let t = has_it (goal.at.returns-clause-came c).After-own_word-word in let h = c.sign_all.ensures.signed.0 in
    let took : HasCondemnedNone m m2 = none_condemned t.1.view refl refl refl in
    let out = n.view ∙ c.leave.ensures.out.view in
    let look = look_taken c.requires.at.2.orderly t.1 h c.leave.ensures.out.view n in record {
      came = (
        look.0,
        tt,
        tt,
        awake_then (awake_then took.awake (awake_noted h))
            (awake_left m3 m5 (ap (λ (z : Sight). z.part.core.waits) h.view ∙ ap (λ (z : Sight). z.part.core.waits) t.1.view) out),
      );
      attempts = look.1;
      marked = marks_idle_then (marks_then (marks_idle c.args.wake.now took.deeds c.requires.marks.woken)
          c.sign_all.ensures.signed.1) (ap (λ (z : Sight). deeds_of z.part.core) out);
    }
