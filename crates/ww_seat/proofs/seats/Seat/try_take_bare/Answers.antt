use Rattle.std.proofs.Common.{sym, subst}
use Rattle.ww_table.specs.declared.seat.Taking.{Taking}
use Rattle.ww_table.specs.Seat.{taking_of}
use Rattle.ww_seat.specs.Standings.{IsTryBare}
use Rattle.ww_seat.proofs.AtOnce.{tried_then}
use Rattle.ww_seat.proofs.Kept.{at_once_then}
use Rattle.ww_seat.proofs.seats.Seat.try_take_bare.Goals as goal

pub returns : goal.returns
returns c = let e = c.unsign.ensures in
    subst (λ (t : Taking). IsTryBare c.args.self.now c.args.lock t c.take_bare.new.self) (sym c.taking.ensures) (
      at_once_then e.back c.take_bare.ensures.0,
      tried_then c.args.lock c.args.self.now.me c.unsign.new.self.me c.take_bare.new.self.me c.args.holds (taking_of c.take_bare.result)
          (record { same = e.same; met = e.met; idle = e.idle; some = c.requires.may.any }) c.take_bare.ensures.1,
    )
