use Rattle.std.proofs.Common.{◌<◌, arith}
use Rattle.ww_table.specs.Seat.{size_of}
use Rattle.ww_seat.proofs.Gives.{giving_out, let_go, let_go_bare}
use Rattle.ww_seat.proofs.turns.give_seen.Goals as goal

pub give-requires-clause-may : goal.give-requires-clause-may
give-requires-clause-may c = let giving = c.requires.giving in
    let low : c.args.lock < size_of c.args.board.now = omega (arith, c.if-lock-from.true, c.from.ensures, c.size.ensures) in record {
      lock = low;
      may = record { inside = giving.inside; owns = giving.owner };
      valid = c.requires.seen.0;
      seen = c.requires.seen.1;
      list = giving.orderly.list c.args.lock giving.inside;
      waiters = giving.seats;
      out = giving_out giving low;
    }

pub returns-then-lock-from-clause-gave : goal.returns-then-lock-from-clause-gave
returns-then-lock-from-clause-gave c =
    let_go _ c.requires.giving (omega (arith, c.if-lock-from.true, c.from.ensures, c.size.ensures)) c.give.ensures.gave

pub returns-else-lock-from-clause-gave : goal.returns-else-lock-from-clause-gave
returns-else-lock-from-clause-gave c =
    let_go_bare _ c.requires.giving (omega (arith, c.if-lock-from.false, c.from.ensures, c.size.ensures)) c.give_bare_inside.ensures.gave
