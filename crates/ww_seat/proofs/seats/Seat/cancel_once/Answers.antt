use Rattle.std.proofs.Common.{rules, arith}
use Rattle.ww_seat.proofs.Kept.{seated_at}
use Rattle.ww_seat.proofs.There.{seats_there}
use Rattle.ww_seat.proofs.seats.Seat.cancel_once.Goals as goal

pub set_cancel-requires-clause-may : goal.set_cancel-requires-clause-may
set_cancel-requires-clause-may c = let q = c.self.inside.seat in
    let same = seats_there c.args.board.now q (seated_at c.self.view_is c.self.invariant c.requires.at) in
    (omega (arith, same, c.requires.may.there), search rules)
