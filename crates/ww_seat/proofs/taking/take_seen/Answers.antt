use Rattle.std.proofs.Common.{rules, ◌<◌, arith}
use Rattle.ww_table.specs.Seat.{size_of}
use Rattle.ww_seat.proofs.Outside.{room_inside}
use Rattle.ww_seat.proofs.Working.{touched_lost_on_top}
use Rattle.ww_seat.proofs.Took.{is_taken, is_taken_bare}
use Rattle.ww_seat.proofs.taking.take_seen.Goals as goal

pub take-requires-clause-may : goal.take-requires-clause-may
take-requires-clause-may c = let at = c.requires.at.2 in
    let low : c.args.lock < size_of c.args.board.now = omega (arith, c.if-lock-from.true, c.from.ensures, c.size.ensures) in record {
      lock = low;
      may = search rules;
      valid = search rules;
      list = at.orderly.list c.args.lock at.working.inside;
      room = room_inside at.orderly low at.working.inside at.working.want.lacks;
    }

pub returns-then-lock-from-clause-tried : goal.returns-then-lock-from-clause-tried
returns-then-lock-from-clause-tried c = let at = c.requires.at.2 in record {
  took = λ t. let e = c.take.ensures.took t in (
    e.0,
    is_taken at.orderly (omega (arith, c.if-lock-from.true, c.from.ensures, c.size.ensures)) at.working.inside at.working.want.lacks e,
  );
  lost = λ f. touched_lost_on_top at.orderly at.working.inside (c.take.ensures.lost f);
}

pub returns-else-lock-from-clause-tried : goal.returns-else-lock-from-clause-tried
returns-else-lock-from-clause-tried c = let at = c.requires.at.2 in record {
  took = λ t. (
    _,
    is_taken_bare at.orderly (omega (arith, c.if-lock-from.false, c.from.ensures, c.size.ensures)) at.working.inside
        (c.take_bare_inside.ensures.gone t),
  );
  lost = λ f. touched_lost_on_top at.orderly at.working.inside (c.take_bare_inside.ensures.lost f);
}
