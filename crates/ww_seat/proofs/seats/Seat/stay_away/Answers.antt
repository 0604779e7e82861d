use Rattle.std.proofs.Common.{arith}
use Rattle.ww_seat.proofs.Glances.{stayed_more, stayed_further, stayed_at}
use Rattle.ww_seat.proofs.Ringing.{slept_not}
use Rattle.ww_seat.proofs.seats.Seat.stay_away.Goals as goal

pub returns-in_default : goal.returns-in_default
returns-in_default c = let i = c.loop.invariant in (
  stayed_more i.1 i.2 c.glance-owner.ensures,
  slept_not c.lose.ensures (slept_not i.3 c.next.ensures.awake),
)

pub returns-then-take_rest : goal.returns-then-take_rest
returns-then-take_rest c = let i = c.loop.invariant in (
  stayed_further (stayed_more i.1 i.2 c.glance-owner.ensures) c.take_rest.ensures.stayed (omega (arith, c.take_rest.ensures.may.few)),
  slept_not c.lose.ensures (slept_not i.3 c.next.ensures.awake),
)

pub loop-preserved : goal.loop-preserved
loop-preserved c = let i = c.loop.invariant in let s = c.args.self.now in
    let stayed = stayed_further (stayed_more i.1 i.2 c.glance-owner.ensures)
    c.take_rest.ensures.stayed (omega (arith, c.take_rest.ensures.may.few)) in (
      stayed_at c.requires.at stayed,
      stayed,
      c.take_rest.ensures.may,
      slept_not i.3 c.next.ensures.awake,
    )
