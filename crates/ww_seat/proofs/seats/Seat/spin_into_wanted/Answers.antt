use Rattle.std.proofs.Common.{Bool, subst}
use Rattle.ww_seat.specs.Standings.{IsGoneIn}
use Rattle.ww_seat.proofs.Stepwise.{shut_stays}
use Rattle.ww_seat.proofs.seats.Seat.spin_into_wanted.Goals as goal

pub loop-preserved : goal.loop-preserved
loop-preserved g c = let i = c.loop.invariant in
    let z = shut_stays i.2 i.3 i.4 i.5
    (subst (λ (b : Bool). IsGoneIn c.loop.self c.args.lock b c.enter_wanted.new.self) c.if-enter_wanted.false c.enter_wanted.ensures) in
    (tt, tt, z.0, z.1, z.2, z.3)
